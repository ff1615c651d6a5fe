-- Step by step, by the splice.
use Rattle.market.specs.CopySplice.{bars_splice}
use Rattle.bit_copier.specs.Moves.{moves-then}
use Rattle.market_copier.proofs.copy_bars.Goals as goal

pub returns : goal.returns
unfolding bars_splice
returns c = moves-then c.keep_field-q.ensures c.keep_if.ensures
