-- Step by step, by the splice.
use Rattle.writing.specs.PlanSplices.{rows_splice, plan_splice}
use Rattle.plan_copier.proofs.copy_plan.Goals as goal

pub returns : goal.returns
unfolding plan_splice rows_splice
returns c = c.add_front-q.ensures.does _ _ _ _ c.requires.0 c.copy_each.ensures
