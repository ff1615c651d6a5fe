use Rattle.fields.proofs.Steps.{seen-exits}
use Rattle.zone_reader.proofs.ZoneSteps.{pair-good, pair-bad}
use Rattle.zone_reader.proofs.read_pair.Goals as goal

pub returns-in_err-past : goal.returns-in_err-past
returns-in_err-past c = seen-exits _ _ c.from_residual.ensures (search (pair-bad, c.in_err-past.ensures))

pub returns : goal.returns
returns c = search (pair-good, c.in_ok-past.ensures)
