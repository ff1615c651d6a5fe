use Rattle.cell_reader.proofs.Cells.{rowing-none, rowing_more, rowing-off, rowing-done}
use Rattle.cell_reader.proofs.read_cells.Goals as goal

pub loop-t-init : goal.loop-t-init
loop-t-init c = search rowing-none

pub returns-in_err-cell : goal.returns-in_err-cell
returns-in_err-cell c = search (rowing-off, c.from_residual.ensures, c.in_err-cell.ensures)

pub loop-t-preserved : goal.loop-t-preserved
loop-t-preserved c = search (rowing_more, c.in_ok-cell.ensures)

pub returns : goal.returns
returns c = search rowing-done
