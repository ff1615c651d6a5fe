-- An interval is copied so often.
use Rattle.bits.specs.Pick.{pick}
use Rattle.layouts.specs.Since.{has}
use Rattle.writing.specs.Splice.{keep, add, ◌⨾◌, times}
use Rattle.writing.specs.PlanSplices.{setting_splice}
use Rattle.plan_copier.proofs.copy_plan.Given as goal

abbrev pub ghost-copy_each : goal.ghost-copy_each
ghost-copy_each a = (times a.step.2 (setting_splice a.step.1) ⨾ pick (has 5 a.step.1) (keep 18) (add 18 0), a.step.0.now)
