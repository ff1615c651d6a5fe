-- A device is copied so often.
use Rattle.writing.specs.CaseSplices.{device_splice}
use Rattle.device_copier.proofs.copy_devices.Given as goal

abbrev pub ghost-copy_each : goal.ghost-copy_each
ghost-copy_each a = (device_splice a.step.1 a.step.2, a.step.0.now)
