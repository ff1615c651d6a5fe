-- The loop's invariant: the powers of the devices below i are on their bars and sides.
use Rattle.mismatches.specs.Sides.{BarsSo}
use Rattle.mismatches.proofs.bar_sides.Given as goal

abbrev pub invariant-loop-i : goal.invariant-loop-i
invariant-loop-i l = BarsSo l.devices l.powers l.m l.t l.i l.s
