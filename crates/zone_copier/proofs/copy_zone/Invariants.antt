-- An interval's minima are copied so often.
use Rattle.writing.specs.CaseSplices.{minima_splice}
use Rattle.zone_copier.proofs.copy_zone.Given as goal

abbrev pub ghost-copy_each : goal.ghost-copy_each
ghost-copy_each a = (minima_splice a.step.1, a.step.0.now)
