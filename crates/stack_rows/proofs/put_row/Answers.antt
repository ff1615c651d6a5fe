-- The last place first, so that the length is known to hold six.
use native.Mathlib.Omega.{arith}
use lib.ListN.{length-set}
use Rattle.stack_rows.specs.Rows.{six-set}
use Rattle.stack_rows.proofs.put_row.Goals as goal

pub bounds-table-4 : goal.bounds-table-4
bounds-table-4 c = simp length-set (omega (arith, c.requires))

pub bounds-table-3 : goal.bounds-table-3
bounds-table-3 c = simp length-set (omega (arith, c.requires))

pub bounds-table-2 : goal.bounds-table-2
bounds-table-2 c = simp length-set (omega (arith, c.requires))

pub bounds-table-1 : goal.bounds-table-1
bounds-table-1 c = simp length-set (omega (arith, c.requires))

pub bounds-table-0 : goal.bounds-table-0
bounds-table-0 c = simp length-set (omega (arith, c.requires))

pub returns : goal.returns
returns c = six-set c.args.table.now c.args.t c.args.bytes c.requires
