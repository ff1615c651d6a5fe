use Rattle.fields.proofs.Steps.{seen-exits}
use Rattle.front_reader.proofs.FrontSteps.{prices-good, prices-bad}
use Rattle.front_reader.proofs.read_prices.Goals as goal

pub returns-in_err-past : goal.returns-in_err-past
returns-in_err-past c = seen-exits _ _ c.from_residual.ensures (search (prices-bad, c.in_err-past.ensures))

pub returns : goal.returns
returns c = search (prices-good, c.in_ok-past.ensures)
