-- What was found is the next of the n passed.
use mathlib.Core.Path.{◌≡◌}
use lib.Dec.{eqb}
use Rattle.block_pick.specs.Order.{ahead_in}
use Rattle.block_pick.specs.Picks.{next_up_to}
use Rattle.block_pick.proofs.next_among.Given as goal

abbrev pub invariant-loop-k : goal.invariant-loop-k
invariant-loop-k l = l.found ≡ next_up_to (ahead_in (eqb l.side 1) l.prices) l.picked l.k
