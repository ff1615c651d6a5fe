-- A setting is copied so often.
use Rattle.writing.specs.PlanSplices.{setting_splice}
use Rattle.plan_copier.proofs.copy_interval.Given as goal

abbrev pub ghost-copy_each : goal.ghost-copy_each
ghost-copy_each a = (setting_splice a.step.1, a.step.0.now)
