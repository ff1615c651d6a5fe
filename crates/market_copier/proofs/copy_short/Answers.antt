-- Step by step, by the splice.
use Rattle.market.specs.CopySplice.{short_splice}
use Rattle.bit_copier.specs.Moves.{moves-then}
use Rattle.market_copier.proofs.copy_short.Goals as goal

pub returns : goal.returns
unfolding short_splice
returns c = moves-then c.keep_run-q.ensures c.keep_if.ensures
