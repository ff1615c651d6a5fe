-- The loop's invariant: nothing is spent in the intervals below t.
use Rattle.overruns.specs.Energies.{Spent}
use Rattle.overruns.proofs.ahead_of.Given as goal

abbrev pub invariant-loop-t : goal.invariant-loop-t
invariant-loop-t l = Spent l.w l.starts l.powers l.t 0
