use mathlib.Core.Path.{refl}
use Rattle.device_store.proofs.put_device.Goals as goal

pub returns : goal.returns
returns c = rw c.device_row.ensures refl
