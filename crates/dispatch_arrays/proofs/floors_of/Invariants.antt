use lib.ListN.{take}
use Rattle.dispatch_arrays.specs.Arrays.{Floors}
use Rattle.dispatch_arrays.proofs.floors_of.Given as goal

abbrev pub invariant-loop-o : goal.invariant-loop-o
invariant-loop-o l = Floors (take l.o-index l.o-items) l.floors
