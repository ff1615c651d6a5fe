use Rattle.fields.proofs.Steps.{seen-exits}
use Rattle.reactive_zones.proofs.Steps.{two-good, two-bad}
use Rattle.reactive_zones.proofs.read_two.Goals as goal

pub returns-in_err-past : goal.returns-in_err-past
returns-in_err-past c = seen-exits _ _ c.from_residual.ensures (search (two-bad, c.in_err-past.ensures))

pub returns : goal.returns
returns c = search (two-good, c.in_ok-past.ensures)
