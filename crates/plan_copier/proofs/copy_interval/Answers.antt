-- Step by step, by the splice.
use Rattle.bit_copier.specs.Moves.{moves-then}
use Rattle.plan_copier.proofs.copy_interval.Goals as goal

pub returns : goal.returns
returns c = moves-then c.copy_each-q.ensures c.keep_since.ensures
