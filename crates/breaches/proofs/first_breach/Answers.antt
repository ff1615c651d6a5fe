-- Nothing where no rule is broken, else the exact way.
use lib.ListN.{length}
use Rattle.records.specs.Views.{system_in, plan_in}
use Rattle.breaches.specs.Day.{first-none}
use Rattle.breaches.proofs.first_breach.Goals as goal

pub returns-then-no_breach : goal.returns-then-no_breach
returns-then-no_breach c = let a : _ = c.args in
    first-none (system_in a.halves.now a.zones.now a.minima.now a.devices.now a.cells.now)
    (plan_in (length a.devices.now) (length a.halves.now) a.settings.now) (c.no_breach.ensures.0 c.if-no_breach.true)
