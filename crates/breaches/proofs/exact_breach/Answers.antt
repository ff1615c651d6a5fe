-- The cells' breaches come ahead of the windows'.
use lib.ListN.{length}
use Rattle.records.specs.Views.{system_in, plan_in}
use Rattle.breaches.specs.Day.{day-stop, day-pass}
use Rattle.breaches.proofs.exact_breach.Goals as goal

pub returns-in_default : goal.returns-in_default
returns-in_default c = let a : _ = c.args in
    day-stop (system_in a.halves.now a.zones.now a.minima.now a.devices.now a.cells.now)
    (plan_in (length a.devices.now) (length a.halves.now) a.settings.now) c.day_rules-r.ensures c.in_default.is

pub returns : goal.returns
returns c = let a : _ = c.args in
    day-pass (system_in a.halves.now a.zones.now a.minima.now a.devices.now a.cells.now)
    (plan_in (length a.devices.now) (length a.halves.now) a.settings.now) c.day_rules-r.ensures c.in-None.is c.window_rules.ensures
