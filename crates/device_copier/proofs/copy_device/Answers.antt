-- Step by step, by the splice.
use Rattle.writing.specs.CaseSplices.{device_splice}
use Rattle.bit_copier.specs.Moves.{moves-then}
use Rattle.device_copier.proofs.copy_device.Goals as goal

pub returns : goal.returns
unfolding device_splice
returns c =
    moves-then c.keep_run-q.ensures (moves-then c.keep_run-q-2.ensures (moves-then c.keep_run-q-3.ensures (moves-then c.keep_counted-q.ensures (moves-then
    c.copy_starts-q.ensures (moves-then c.keep_counted-q-2.ensures (moves-then c.copy_link-q.ensures (moves-then c.keep_since-q.ensures c.copy_cells.ensures)))))))
