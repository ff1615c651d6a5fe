-- Step by step, by the splice.
use Rattle.market.specs.CopySplice.{front_splice}
use Rattle.bit_copier.specs.Moves.{moves-then, add-moves, keep_all}
use Rattle.market_copier.specs.Skips.{set-skip, skip-moves}
use Rattle.market_copier.proofs.copy_front.Goals as goal

pub returns : goal.returns
unfolding front_splice
returns c =
    let skipped = skip-moves 4 c.requires c.skip_bits-q.ensures in
    let kind = add-moves 4 4 (set-skip 4 c.requires c.skip_bits-q.ensures) c.add_field-q.ensures in
    moves-then (moves-then skipped kind) (moves-then c.keep_run-q.ensures (moves-then (keep_all _ _ c.device_bits-d.ensures c.keep_run-q-2.ensures) (moves-then
    (keep_all _ _ c.interval_bits-i.ensures c.keep_run-q-3.ensures) c.keep_run.ensures)))
