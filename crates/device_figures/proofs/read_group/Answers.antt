use native.Mathlib.Omega.{arith}
use lib.Seq.{take_all}
use Rattle.fields.proofs.Steps.{exits}
use Rattle.device_figures.proofs.read_group.Goals as goal

pub returns-in_err-past : goal.returns-in_err-past
returns-in_err-past g c = exits _ c.from_residual.ensures c.in_err-past.ensures

pub returns : goal.returns
returns g c = let h = c.read_row.auto.out in rw (take_all g.row.N c.read_row.new.out (omega arith)) at c.in_ok-past.ensures
