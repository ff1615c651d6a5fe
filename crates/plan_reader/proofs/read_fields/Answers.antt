-- What the header is refused with, else what the settings behind it are.
use Rattle.fields.proofs.Steps.{told-exits}
use Rattle.plan_reader.proofs.Whole.{plan-on, plan-off}
use Rattle.plan_reader.proofs.read_fields.Goals as goal

pub returns-in_err-p : goal.returns-in_err-p
returns-in_err-p c = told-exits _ _ c.from_residual.ensures (plan-off _ _ _ _ c.in_err-p.ensures)

pub returns : goal.returns
returns c = plan-on _ _ _ _ _ _ c.in_ok-p.ensures c.read_intervals.ensures
