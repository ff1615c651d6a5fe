-- Four groups: the first that is refused answers.
use Rattle.cell_reader.proofs.Cells.{cell-1, cell-2, cell-3, cell-4, cell-off, cell-done}
use Rattle.cell_reader.proofs.read_cell.Goals as goal

pub returns-in_err-limits : goal.returns-in_err-limits
returns-in_err-limits c = cell-off _ _ _ c.from_residual.ensures (cell-1 _ _ _ c.in_err-limits.ensures)

pub returns-in_err-blocks : goal.returns-in_err-blocks
returns-in_err-blocks c = cell-off _ _ _ c.from_residual-in_err-blocks.ensures (cell-2 _ _ _ c.in_ok-limits.ensures c.in_err-blocks.ensures.is)

pub returns-in_err-prices : goal.returns-in_err-prices
returns-in_err-prices c = cell-off _ _ _ c.from_residual-in_err-prices.ensures (cell-3 _ _ _ c.in_ok-limits.ensures c.in_ok-blocks.ensures.is c.in_err-prices.ensures)

pub returns-in_err-reactive : goal.returns-in_err-reactive
returns-in_err-reactive c =
    cell-off _ _ _ c.from_residual-in_err-reactive.ensures (cell-4 _ _ _ c.in_ok-limits.ensures c.in_ok-blocks.ensures.is c.in_ok-prices.ensures c.in_err-reactive.ensures)

pub returns : goal.returns
returns c = cell-done _ _ _ _ _ _ _ c.in_ok-limits.ensures c.in_ok-blocks.ensures c.in_ok-prices.ensures c.in_ok-reactive.ensures c.cell_with.ensures
