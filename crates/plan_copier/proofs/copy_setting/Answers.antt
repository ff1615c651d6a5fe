-- Step by step, by the splice.
use Rattle.writing.specs.PlanSplices.{setting_splice}
use Rattle.bit_copier.specs.Moves.{moves-then}
use Rattle.plan_copier.proofs.copy_setting.Goals as goal

pub returns : goal.returns
unfolding setting_splice
returns c = moves-then c.keep_run-q.ensures c.keep_since.ensures
