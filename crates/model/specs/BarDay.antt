-- The two-set day on two busbars, worked by hand: tabulated facts on figures.
use Rattle.std.specs.Prelude.{Bool, List, [], ◌∷◌, ℕ, T, ℤ, pos, negsuc}
use Rattle.numbers.specs.Base.{every}
use Rattle.model.specs.Case.{Case, Device, Plan, no_reactive}
use Rattle.model.specs.Judgement.{verdict}
use Rattle.model.specs.Open.{open-rules, open-messages}
use Rattle.model.specs.Shown.{shown, eqℤ, eq_list}
use Rattle.model.specs.Day.{day_case, reactive_plan, none_added}
use Rattle.model.specs.ReactiveDay.{Row}

-- busbars came with edition 5
abbrev pub edition : ℕ
edition = 5

on : ℕ → Device → Device
on b d = record {
  side = d.side;
  zone_bits = d.zone_bits;
  on0 = d.on0;
  power0 = d.power0;
  minutes0 = d.minutes0;
  min_up = d.min_up;
  min_down = d.min_down;
  ramps = d.ramps;
  limits = d.limits;
  longest = d.longest;
  start_windows = d.start_windows;
  energy_windows = d.energy_windows;
  link = d.link;
  bar = b;
  cells = d.cells;
}

-- two devices on these bars
barred : List ℕ → List Device → List Device
barred [] ds = ds
barred (b ∷ bs) [] = []
barred (b ∷ bs) (d ∷ ds) = on b d ∷ barred bs ds

-- with a zone's share of rgu, or none
two : List ℕ → List ℕ → ℕ → Case
two shares bs limit =
    let c = day_case (record { off = 600; down = 60; zoned = shares; starts = []; energies = []; mismatch = 1000; added = none_added }) in
    let q = c.system in
    record { system = record { halves = q.halves; link_limit = limit; zones = q.zones; devices = barred bs q.devices }; prices = c.prices }

flowing : List ℤ → Plan
flowing fs = record { settings = (reactive_plan no_reactive no_reactive no_reactive 150 150 0).settings; flows = fs }

unfoldable pub bar_rows : List Row
unfolding day_case reactive_plan none_added on barred two flowing
bar_rows =
    -- device 2 on bar 1, and the link carries what it takes
    record { case = two [] (0 ∷ 1 ∷ []) 150; plan = flowing (pos 30 ∷ pos 150 ∷ []); tells = pos 0 ∷ pos 167860 ∷ [] } ∷
    record { case = two [] (0 ∷ 1 ∷ []) 149; plan = flowing (pos 30 ∷ pos 150 ∷ []); tells = pos 1 ∷ pos 27 ∷ pos 2 ∷ pos 0 ∷ pos 0 ∷ [] } ∷
    -- the wrong way in interval 1: both bars are 60 kW out, 2·60·60·1000 less
    record { case = two [] (0 ∷ 1 ∷ []) 150; plan = flowing (negsuc 29 ∷ pos 150 ∷ []); tells = pos 0 ∷ negsuc 7032139 ∷ [] } ∷
    -- the limit the other way, and one below it
    record { case = two [] (1 ∷ 0 ∷ []) 150; plan = flowing (negsuc 29 ∷ negsuc 149 ∷ []); tells = pos 0 ∷ pos 167860 ∷ [] } ∷
    record { case = two [] (1 ∷ 0 ∷ []) 149; plan = flowing (negsuc 29 ∷ negsuc 149 ∷ []); tells = pos 1 ∷ pos 27 ∷ pos 2 ∷ pos 0 ∷ pos 0 ∷ [] } ∷
    -- rule 27 of interval 1 comes behind its devices and ahead of interval 2
    record { case = two [] (0 ∷ 1 ∷ []) 29; plan = flowing (pos 30 ∷ pos 150 ∷ []); tells = pos 1 ∷ pos 27 ∷ pos 1 ∷ pos 0 ∷ pos 0 ∷ [] } ∷
    -- both on bar 0: a flow of 1 makes a mismatch of 1 on either bar, in each interval: 2·2·60·1000 less
    record { case = two [] (0 ∷ 0 ∷ []) 1; plan = flowing (pos 1 ∷ pos 1 ∷ []); tells = pos 0 ∷ negsuc 72139 ∷ [] } ∷
    record { case = two [] (0 ∷ 0 ∷ []) 0; plan = flowing (pos 0 ∷ pos 0 ∷ []); tells = pos 0 ∷ pos 167860 ∷ [] } ∷
    -- "zone needs ignore it": as on one busbar
    record { case = two (50 ∷ []) (0 ∷ 1 ∷ []) 150; plan = flowing (pos 30 ∷ pos 150 ∷ []); tells = pos 0 ∷ negsuc 1452139 ∷ [] } ∷ []

on_figures : Row → Bool
on_figures r = eq_list eqℤ (shown (verdict (record { edition = edition; case = r.case }) r.plan 200)) r.tells

bars-on-figures : T (every on_figures bar_rows)
unfolding open-rules open-messages on_figures bar_rows
bars-on-figures = tt
