-- The loop's invariant: the numbers below t are the online powers.
use Rattle.ramped_powers.specs.Changes.{OnlineTo}
use Rattle.ramped_powers.proofs.online_powers.Given as goal

abbrev pub invariant-loop-t : goal.invariant-loop-t
invariant-loop-t l = OnlineTo l.settings l.t l.row
