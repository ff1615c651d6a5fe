use Rattle.dispatch_arrays.specs.Arrays.{Written}
use Rattle.dispatch_arrays.proofs.write_powers.Given as goal

abbrev pub invariant-loop-j : goal.invariant-loop-j
invariant-loop-j l = Written l.fn.figures l.sets l.j l.powers
