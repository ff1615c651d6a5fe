-- A start window is copied so often.
use Rattle.writing.specs.CaseSplices.{start_splice}
use Rattle.device_copier.proofs.copy_starts.Given as goal

abbrev pub ghost-copy_each : goal.ghost-copy_each
ghost-copy_each a = (start_splice a.step.1, a.step.0.now)
