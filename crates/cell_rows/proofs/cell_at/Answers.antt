use Rattle.cell_rows.proofs.Cells.{cell-made}
use Rattle.cell_rows.proofs.cell_at.Goals as goal

pub returns : goal.returns
returns c = search cell-made
