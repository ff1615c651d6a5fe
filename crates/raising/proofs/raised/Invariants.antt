-- The loop's invariant: the run from the start on is the run from the state after the offers taken on, which is good.
use mathlib.Core.Path.{◌≡◌}
use lib.ListN.{length}
use lib.Seq.{slice}
use Rattle.raising.specs.Raising.{run, Good}
use Rattle.raising.proofs.raised.Given as goal

abbrev pub invariant-loop-o : goal.invariant-loop-o
invariant-loop-o l = (run l.initial.r l.o-items l.lo l.hi l.target ≡ run l.r (slice l.o-index (length l.o-items) l.o-items) l.lo l.hi l.target) × Good l.o-index l.r l.target
