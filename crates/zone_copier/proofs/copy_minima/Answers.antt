-- Step by step, by the splice.
use Rattle.writing.specs.CaseSplices.{minima_splice}
use Rattle.bit_copier.specs.Moves.{moves-then}
use Rattle.zone_copier.proofs.copy_minima.Goals as goal

pub returns : goal.returns
unfolding minima_splice
returns c = moves-then c.keep_field-q.ensures c.keep_since.ensures
