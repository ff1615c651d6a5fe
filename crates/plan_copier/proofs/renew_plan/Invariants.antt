-- The whole plan is copied.
use Rattle.writing.specs.PlanSplices.{plan_splice}
use Rattle.plan_copier.proofs.renew_plan.Given as goal

abbrev pub ghost-renew : goal.ghost-renew
ghost-renew a = (plan_splice a.step.1 a.step.2 a.step.3, a.step.0.now)
