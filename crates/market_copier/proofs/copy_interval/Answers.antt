-- Step by step, by the splice.
use Rattle.market.specs.CopySplice.{interval_splice}
use Rattle.bit_copier.specs.Moves.{moves-then}
use Rattle.market_copier.proofs.copy_interval.Goals as goal

pub returns : goal.returns
unfolding interval_splice
returns c =
    moves-then c.copy_each-q.ensures (moves-then c.copy_each-q-2.ensures (moves-then c.copy_bars-q.ensures c.copy_reactive_bars.ensures))
