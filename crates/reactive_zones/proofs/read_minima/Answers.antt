use Rattle.fields.proofs.Steps.{seen-exits}
use Rattle.reactive_zones.proofs.Steps.{minima-absent, minima-there}
use Rattle.reactive_zones.proofs.read_minima.Goals as goal

pub returns-then-edition-lt-REACTIVE_EDITION : goal.returns-then-edition-lt-REACTIVE_EDITION
returns-then-edition-lt-REACTIVE_EDITION c = search minima-absent

pub returns-in_err-qru : goal.returns-in_err-qru
returns-in_err-qru c = seen-exits _ _ c.from_residual.ensures (search (minima-there, c.in_err-qru.ensures))

pub returns : goal.returns
returns c = search (minima-there, c.in_ok-qru.ensures)
