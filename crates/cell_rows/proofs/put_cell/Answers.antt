use mathlib.Core.Path.{refl}
use Rattle.cell_rows.proofs.put_cell.Goals as goal

pub returns : goal.returns
returns c = rw c.cell_row.ensures refl
