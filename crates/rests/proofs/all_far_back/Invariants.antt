-- The loop's invariant: what is left says what the whole says.
use Rattle.rests.specs.Apart.{far_at, Back}
use Rattle.rests.proofs.all_far_back.Given as goal

abbrev pub invariant-loop-e : goal.invariant-loop-e
invariant-loop-e l = Back (far_at l.r l.settings l.starts l.t) l.t l.e
