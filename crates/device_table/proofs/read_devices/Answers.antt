use native.Mathlib.Omega.{arith}
use Rattle.std.proofs.Math.Path.{refl}
use lib.ListN.{length-take, length-drop}
use Rattle.zone_table.proofs.PartSteps.{inside, inside-heads}
use Rattle.device_table.proofs.DeviceSteps.{devices-none, manning-none, manning-more, manning-off, manning-done}
use Rattle.device_table.proofs.read_devices.Goals as goal

pub loop-i-init : goal.loop-i-init
loop-i-init c = manning-none _ _

pub overflow_add-e : goal.overflow_add-e
overflow_add-e c = omega (arith, inside c.loop-i.invariant.parting c.requires.1 c.loop-i-test.true)

pub offset_bounds-cells-a : goal.offset_bounds-cells-a
offset_bounds-cells-a c = omega (arith, inside c.loop-i.invariant.parting c.requires.1 c.loop-i-test.true)

pub slice_bounds-read_device-end : goal.slice_bounds-read_device-end
slice_bounds-read_device-end c = omega (arith, inside c.loop-i.invariant.parting c.requires.1 c.loop-i-test.true)

pub read_device-requires : goal.read_device-requires
read_device-requires c = (c.requires.0, simp (length-take, length-drop) (omega (arith, c.requires.1.few)))

pub returns-in_err-device : goal.returns-in_err-device
returns-in_err-device c = devices-none _ _ _ _ _ _ _ _ _ _ c.from_residual.ensures
    (manning-off c.loop-i.invariant c.requires.1 c.loop-i-test.true c.read_device.new.cells c.read_device.auto.cells c.in_err-device.ensures.is)

pub put_device-requires : goal.put_device-requires
put_device-requires c = (c.in_ok-device.ensures.small _ _ refl, omega (arith, inside-heads c.loop-i.invariant.parting c.requires.1 c.loop-i-test.true))

pub loop-i-preserved : goal.loop-i-preserved
loop-i-preserved c = manning-more c.loop-i.invariant c.requires.1 c.loop-i-test.true c.in_ok-device.device c.read_device.new.cells c.read_device.auto.cells c.in_ok-device.ensures c.put_device.ensures

pub returns : goal.returns
returns c = manning-done c.loop-i.invariant (omega arith)
