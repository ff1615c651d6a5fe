-- A device's single figures, its link and its bar, as the code reads and keeps them.
use Rattle.std.specs.Prelude.{List, [], ◌∷◌, ℕ}
use Rattle.layouts.specs.Layout.{Layout, ◌▸◌, any}
use Rattle.layouts.specs.Since.{since}
use Rattle.model.specs.Case as M
use Rattle.model.specs.Case.{no_link}
use Rattle.model.specs.Messages.{eight, kw_field, zone_bits}
use Rattle.model.specs.ByEdition.{link, bar}
use Rattle.ranges.specs.Kept.{reserves_of}
use Rattle.records.specs.Views.{link_in}
use Rattle.field_rows.specs.Each.{row}
use Rattle.device_figures.specs.declared.Figures.{Figures}
use Rattle.device_figures.specs.declared.Linked.{Linked}
use Rattle.device_figures.specs.declared.Sides.{Sides}

-- "side 1; zone bits 4, zone 1 first"
abbrev pub sides : ℕ → Layout (ℕ × ℕ)
sides zones = any 1 ▸ zone_bits zones

abbrev pub sides_in : Sides → ℕ × ℕ
sides_in r = (r.side, r.zonebits)

-- "initially on 1; initial power 17; minutes already so 16 (0..60,000); minimum up and down minutes 16 each (0..60,000)": width, least and greatest in turn
abbrev pub initial_row : List ℕ
initial_row = 1 ∷ 0 ∷ 1 ∷ 17 ∷ 0 ∷ 100000 ∷ 16 ∷ 0 ∷ 60000 ∷ 16 ∷ 0 ∷ 60000 ∷ 16 ∷ 0 ∷ 60000 ∷ []

-- "ramps in kW/min up, down, starting, stopping 17 each (1..100,000)"
abbrev pub ramp_row : List ℕ
ramp_row = 17 ∷ 1 ∷ 100000 ∷ 17 ∷ 1 ∷ 100000 ∷ 17 ∷ 1 ∷ 100000 ∷ 17 ∷ 1 ∷ 100000 ∷ []

-- "on cost per minute 17 (0..100,000); start, stop cost 30 each (0..10^9)"
abbrev pub cost_row : List ℕ
cost_row = 17 ∷ 0 ∷ 100000 ∷ 30 ∷ 0 ∷ 1000000000 ∷ 30 ∷ 0 ∷ 1000000000 ∷ []

abbrev pub FigureLists : Type 0
FigureLists = List ℕ × (List ℕ × (List ℕ × M.Reserves))

-- what stands behind the zone bits, up to the lists
abbrev pub figures : Layout FigureLists
figures = row initial_row 5 ▸ row ramp_row 4 ▸ row cost_row 3 ▸ eight kw_field

abbrev pub figures_in : Figures → FigureLists
figures_in r = (r.initial, (r.ramps, (r.costs, reserves_of r.limits)))

-- the link, since edition 2; behind its lines the bar, since edition 5
abbrev pub linked : ℕ → Layout (M.Link × ℕ)
linked e = since e 2 no_link link ▸ since e 5 0 bar

abbrev pub linked_in : Linked → M.Link × ℕ
linked_in r = (link_in r.link, r.bar)
