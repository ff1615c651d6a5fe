use Rattle.fields.proofs.Steps.{seen-exits}
use Rattle.reactive_zones.proofs.Steps.{prices-absent, prices-there}
use Rattle.reactive_zones.proofs.read_prices.Goals as goal

pub returns-then-edition-lt-REACTIVE_EDITION : goal.returns-then-edition-lt-REACTIVE_EDITION
returns-then-edition-lt-REACTIVE_EDITION c = search prices-absent

pub returns-in_err-qru : goal.returns-in_err-qru
returns-in_err-qru c = seen-exits _ _ c.from_residual.ensures (search (prices-there, c.in_err-qru.ensures))

pub returns : goal.returns
returns c = search (prices-there, c.in_ok-qru.ensures)
