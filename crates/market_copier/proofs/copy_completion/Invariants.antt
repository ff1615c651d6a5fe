-- An interval is copied so often.
use Rattle.market.specs.CopySplice.{interval_splice}
use Rattle.market_copier.proofs.copy_completion.Given as goal

abbrev pub ghost-copy_each : goal.ghost-copy_each
ghost-copy_each a = (interval_splice a.step.1 a.step.2 a.step.3, a.step.0.now)
