-- Step by step, by the splice.
use Rattle.market.specs.CopySplice.{copy_splice}
use Rattle.bit_copier.specs.Moves.{moves-then, set_after, run-times}
use Rattle.market_copier.specs.Skips.{skip-moves}
use Rattle.market_copier.proofs.copy_completion.Goals as goal

pub returns : goal.returns
unfolding copy_splice
returns c =
    moves-then c.copy_front-q.ensures (moves-then c.copy_each-q.ensures (moves-then (run-times _ 32 c.keep_run-q.ensures) (skip-moves 64 (set_after
    c.keep_run-q.ensures) c.skip_bits.ensures)))
