-- A cell is copied so often.
use Rattle.writing.specs.CaseSplices.{cell_splice}
use Rattle.cell_copier.proofs.copy_cells.Given as goal

abbrev pub ghost-copy_each : goal.ghost-copy_each
ghost-copy_each a = (cell_splice a.step.1, a.step.0.now)
