-- A zone is copied so often.
use Rattle.writing.specs.CaseSplices.{zone_splice}
use Rattle.zone_copier.proofs.copy_zones.Given as goal

abbrev pub ghost-copy_each : goal.ghost-copy_each
ghost-copy_each a = (zone_splice a.step.1 a.step.2, a.step.0.now)
