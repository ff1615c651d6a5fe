-- The loop's invariant: what is held is that of the members below i.
use Rattle.reactive_shortfalls.specs.Held.{held_by, HeldSo}
use Rattle.reactive_shortfalls.proofs.reactive_held.Given as goal

abbrev pub invariant-loop-i : goal.invariant-loop-i
invariant-loop-i l = HeldSo l.devices l.settings l.m l.t l.z l.i (held_by l.qru l.qrd)
