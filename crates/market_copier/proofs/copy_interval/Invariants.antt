-- A device's change, then a zone's shortfalls are copied so often.
use Rattle.market.specs.CopySplice.{change_splice, short_splice}
use Rattle.market_copier.proofs.copy_interval.Given as goal

abbrev pub ghost-copy_each : goal.ghost-copy_each
ghost-copy_each a = (change_splice, a.step.0.now)

abbrev pub ghost-copy_each-2 : goal.ghost-copy_each-2
ghost-copy_each-2 a = (short_splice a.step.1, a.step.0.now)
