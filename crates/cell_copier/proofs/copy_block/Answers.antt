-- Step by step, by the splice.
use Rattle.writing.specs.CaseSplices.{block_splice}
use Rattle.bit_copier.specs.Moves.{moves-then}
use Rattle.cell_copier.proofs.copy_block.Goals as goal

pub returns : goal.returns
unfolding block_splice
returns c = moves-then (moves-then c.keep_field-q.ensures c.keep_since-q.ensures) c.keep_field.ensures
