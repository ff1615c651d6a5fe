-- A table that is too short is never touched.
use native.Mathlib.Omega.{arith}
use Rattle.completion_reader.specs.Behind.{fills-short, fills-whole}
use Rattle.completion_reader.proofs.fill.Goals as goal

pub returns-then-table-count : goal.returns-then-table-count
returns-then-table-count c = fills-short _ _ _ c.if-table-count.true

pub shape_of-table : goal.shape_of-table
shape_of-table c = c.read_body.ensures.long

pub returns : goal.returns
returns c = let x = c in fills-whole _ _ _ (omega (arith, x.if-table-count.false)) x.read_body.ensures
