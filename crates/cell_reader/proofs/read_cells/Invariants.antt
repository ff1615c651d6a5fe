-- The loop's invariant: t of the cells have been read, and stand in the first rows.
use lib.ListN.{length}
use Rattle.cell_reader.proofs.Cells.{Rowing}
use Rattle.cell_reader.proofs.read_cells.Given as goal

abbrev pub invariant-loop-t : goal.invariant-loop-t
invariant-loop-t l = Rowing l.edition l.s (length l.initial.cells) l.initial.q l.t l.cells l.q
