use Prim.Native.Nat.{◌*◌}
use native.Mathlib.Omega.{arith}
use Rattle.records.specs.Views.{most_devices}
use Rattle.money.specs.Bounds.{windows_cost_most}
use Rattle.money.specs.Entries.{spare-after}
use Rattle.overrun_completions.specs.Advances.{overruns-none, overruns-next, overruns-done}
use Rattle.overrun_completions.specs.Steps.{windows-room}
use Rattle.overrun_completions.proofs.complete_overruns.Goals as goal

pub loop-i-init : goal.loop-i-init
loop-i-init c =
    let r : _ = c.args in
    overruns-none r.front r.halves.now r.zones.now r.minima.now r.devices.now r.cells.now r.settings.now _ _ c.requires.ready.0

pub complete_windows-q-requires : goal.complete_windows-q-requires
complete_windows-q-requires c =
    let few : _ = c.requires.unbroken.ready.case_rows.few-devices in record {
      unbroken = (c.requires.unbroken, c.loop-i-test.true);
      ready = (
        c.loop-i.invariant.pushes.ready,
        windows-room c.requires.unbroken c.loop-i.i c.loop-i-test.true c.loop-i.invariant.pushes
            c.requires.ready.1,
        spare-after (most_devices * windows_cost_most) (c.loop-i.i * windows_cost_most) windows_cost_most c.requires.ready.2
            c.loop-i.invariant.entered (omega (arith, c.loop-i-test.true, few)),
      );
    }

pub loop-i-preserved : goal.loop-i-preserved
loop-i-preserved c =
    let r : _ = c.args in
    overruns-next r.front r.halves.now r.zones.now r.minima.now r.devices.now r.cells.now r.settings.now c.loop-i.i c.loop-i.invariant
    c.complete_windows-q.ensures

pub shape_of-buf : goal.shape_of-buf
shape_of-buf c = c.loop-i.invariant.pushes.long

pub returns : goal.returns
returns c =
    let r : _ = c.args in
    overruns-done r.front r.halves.now r.zones.now r.minima.now r.devices.now r.cells.now r.settings.now c.loop-i.i _ c.loop-i.auto.i-end
    c.loop-i-test.false c.loop-i.invariant
