-- Step by step, by the splice.
use Rattle.market.specs.CopySplice.{change_splice}
use Rattle.bit_copier.specs.Moves.{moves-then, set_after}
use Rattle.market_copier.specs.Skips.{set-skip, skip-moves, skip-times}
use Rattle.market_copier.proofs.copy_change.Goals as goal

pub returns : goal.returns
unfolding change_splice
returns c =
    let set = set_after c.keep_field-q-2.ensures in
    moves-then c.keep_field-q.ensures (moves-then c.keep_field-q-2.ensures (moves-then (skip-moves 3 set c.skip_bits-q.ensures) (skip-times 4 17 (skip-moves 68
    (set-skip 3 set c.skip_bits-q.ensures) c.skip_bits.ensures))))
