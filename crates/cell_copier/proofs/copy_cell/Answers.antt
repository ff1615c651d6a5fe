-- Status and limits, the count of blocks, and what stands behind it.
use Rattle.cell_copier.specs.Runs.{cell-moves}
use Rattle.cell_copier.proofs.copy_cell.Goals as goal

pub returns : goal.returns
returns c =
    cell-moves c.args.edition c.next_field-n.result c.keep_field-q.ensures c.next_field-n.ensures c.keep_field-q-2.ensures c.copy_offer.ensures
