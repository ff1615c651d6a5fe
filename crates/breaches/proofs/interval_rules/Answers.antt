-- The cells' breaches come ahead of the link's.
use native.Mathlib.Omega.{arith}
use mathlib.Core.Path.{◌≡◌, refl, ap, ◌∙◌}
use Rattle.std.specs.Prelude.{Option, Some, None}
use Rattle.std.specs.Option.{option_or}
use Rattle.model.specs.declared.Breach.{Breach}
use lib.ListN.{length}
use Rattle.records.specs.Views.{system_in, plan_in}
use Rattle.link_rules.specs.Link.{link-rows, link-is}
use Rattle.breaches.specs.First.{first, or_else}
use Rattle.breaches.specs.Day.{interval-found}
use Rattle.breaches.proofs.interval_rules.Goals as goal

-- the first of two, where there is one
same : (a b : Option Breach) → option_or a b ≡ or_else a b
unfolding or_else
same None b = refl
same (Some x) b = refl

pub link_check-link_first-requires : goal.link_check-link_first-requires
link_check-link_first-requires c = ((link-rows c.requires.0).at c.args.t c.requires.1, omega (arith, c.requires.1, c.requires.0.case_rows.few-intervals))

pub returns : goal.returns
returns c = let a : _ = c.args in
    interval-found (system_in a.halves.now a.zones.now a.minima.now a.devices.now a.cells.now)
    (plan_in (length a.devices.now) (length a.halves.now) a.settings.now) a.t c.interval_cells-cells_first.ensures
    (c.link_check-link_first.ensures ∙ ap first (link-is c.requires.0 a.t c.requires.1)) (c.or.ensures ∙ same _ _)
