use lib.ListN.{length}
use Rattle.records.specs.Views.{system_in, plan_in}
use Rattle.records.specs.Viewed.{devices-are}
use Rattle.breaches.specs.Day.{cells-start, cells-held, cells-broken, cells-done}
use Rattle.breaches.proofs.interval_cells.Goals as goal

pub loop-i-init : goal.loop-i-init
loop-i-init c = cells-start _ _ _

pub returns-in_default : goal.returns-in_default
returns-in_default c = let a : _ = c.args in
    cells-broken (system_in a.halves.now a.zones.now a.minima.now a.devices.now a.cells.now)
    (plan_in (length a.devices.now) (length a.halves.now) a.settings.now)
    (devices-are a.halves.now a.zones.now a.minima.now a.devices.now a.cells.now) c.loop-i-test.true
    c.loop-i.invariant c.cell_check-r.ensures c.in_default.is

pub loop-i-preserved : goal.loop-i-preserved
loop-i-preserved c = let a : _ = c.args in
    cells-held (system_in a.halves.now a.zones.now a.minima.now a.devices.now a.cells.now)
    (plan_in (length a.devices.now) (length a.halves.now) a.settings.now)
    (devices-are a.halves.now a.zones.now a.minima.now a.devices.now a.cells.now) c.loop-i-test.true
    c.loop-i.invariant c.cell_check-r.ensures c.in-None.is

pub returns : goal.returns
returns c = let a : _ = c.args in
    cells-done (system_in a.halves.now a.zones.now a.minima.now a.devices.now a.cells.now)
    (plan_in (length a.devices.now) (length a.halves.now) a.settings.now)
    (devices-are a.halves.now a.zones.now a.minima.now a.devices.now a.cells.now) c.loop-i-test.false c.loop-i.invariant
