-- The loop's invariant: i of the devices have been read, and the next one's cells begin at a.
use Prim.Native.Nat.{◌-◌}
use Rattle.device_table.proofs.DeviceSteps.{Manning}
use Rattle.device_table.proofs.read_devices.Given as goal

abbrev pub invariant-loop-i : goal.invariant-loop-i
invariant-loop-i l = Manning l.edition l.s l.n l.m l.zones l.last l.initial.q l.initial.devices l.initial.cells l.i l.a l.devices l.cells l.q
