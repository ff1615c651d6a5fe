use lib.ListN.{length}
use Rattle.records.specs.Views.{system_in, plan_in}
use Rattle.records.specs.Viewed.{intervals-are}
use Rattle.breaches.specs.Day.{intervals-start, intervals-held, intervals-broken, intervals-done}
use Rattle.breaches.proofs.day_rules.Goals as goal

pub loop-t-init : goal.loop-t-init
loop-t-init c = intervals-start _ _

pub returns-in_default : goal.returns-in_default
returns-in_default c = let a : _ = c.args in
    intervals-broken (system_in a.halves.now a.zones.now a.minima.now a.devices.now a.cells.now)
    (plan_in (length a.devices.now) (length a.halves.now) a.settings.now)
    (intervals-are a.halves.now a.zones.now a.minima.now a.devices.now a.cells.now) c.loop-t-test.true
    c.loop-t.invariant c.interval_rules-r.ensures c.in_default.is

pub loop-t-preserved : goal.loop-t-preserved
loop-t-preserved c = let a : _ = c.args in
    intervals-held (system_in a.halves.now a.zones.now a.minima.now a.devices.now a.cells.now)
    (plan_in (length a.devices.now) (length a.halves.now) a.settings.now)
    (intervals-are a.halves.now a.zones.now a.minima.now a.devices.now a.cells.now) c.loop-t-test.true
    c.loop-t.invariant c.interval_rules-r.ensures c.in-None.is

pub returns : goal.returns
returns c = let a : _ = c.args in
    intervals-done (system_in a.halves.now a.zones.now a.minima.now a.devices.now a.cells.now)
    (plan_in (length a.devices.now) (length a.halves.now) a.settings.now)
    (intervals-are a.halves.now a.zones.now a.minima.now a.devices.now a.cells.now) c.loop-t-test.false c.loop-t.invariant
