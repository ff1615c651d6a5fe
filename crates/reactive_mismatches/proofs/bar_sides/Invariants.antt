-- The loop's invariant: the sums by bar and side are those of the devices below i.
use Rattle.reactive_mismatches.specs.Sides.{BarsSo}
use Rattle.reactive_mismatches.proofs.bar_sides.Given as goal

abbrev pub invariant-loop-i : goal.invariant-loop-i
invariant-loop-i l = BarsSo l.devices l.settings l.m l.t l.i l.s
