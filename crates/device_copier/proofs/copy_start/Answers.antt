-- Step by step, by the splice.
use Rattle.writing.specs.Splice.{none}
use Rattle.writing.specs.CaseSplices.{start_splice}
use Rattle.bit_copier.specs.Moves.{moves-then, by_as}
use Rattle.device_copier.proofs.copy_start.Goals as goal

pub returns : goal.returns
unfolding start_splice
returns c = moves-then c.keep_field-q.ensures (by_as _ _ 7 (λ v. none) c.starts_bits-width.ensures c.widen_field.ensures)
