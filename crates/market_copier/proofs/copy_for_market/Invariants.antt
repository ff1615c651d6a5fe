-- The whole completion is copied.
use Rattle.market.specs.CopySplice.{copy_splice}
use Rattle.market_copier.specs.Counts.{counts_in}
use Rattle.market_copier.proofs.copy_for_market.Given as goal

abbrev pub ghost-renew : goal.ghost-renew
ghost-renew a = (copy_splice a.step.1 (counts_in a.step.2 a.step.3 a.step.4) a.step.5, a.step.0.now)
