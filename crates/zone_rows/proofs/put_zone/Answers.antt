use mathlib.Core.Path.{refl}
use Rattle.zone_rows.proofs.put_zone.Goals as goal

pub returns : goal.returns
returns c = rw c.zone_row.ensures refl
