-- The loop's invariant: no device below i has a q.
use Rattle.reactive_mismatches.specs.Sides.{NoneTo}
use Rattle.reactive_mismatches.proofs.none_reactive.Given as goal

abbrev pub invariant-loop-i : goal.invariant-loop-i
invariant-loop-i l = NoneTo l.settings l.m l.t l.i
