-- The row is the one with another online power.
use mathlib.Core.Path.{refl}
use Rattle.online_rows.proofs.put_online.Goals as goal

pub returns : goal.returns
returns c = rw c.online_row.ensures refl
