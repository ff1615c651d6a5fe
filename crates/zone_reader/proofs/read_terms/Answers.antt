use Rattle.fields.proofs.Steps.{seen-exits}
use Rattle.zone_reader.proofs.ZoneSteps.{terms-off, terms-late, terms-on}
use Rattle.zone_reader.proofs.read_terms.Goals as goal

pub returns-in_err-at_prices : goal.returns-in_err-at_prices
returns-in_err-at_prices c = seen-exits _ _ c.from_residual.ensures (search (terms-off, c.in_err-at_prices.ensures))

pub returns-in_err-past : goal.returns-in_err-past
returns-in_err-past c = seen-exits _ _ c.from_residual-in_err-past.ensures (search (terms-late, c.in_ok-at_prices.ensures, c.in_err-past.ensures))

pub returns : goal.returns
returns c = search (terms-on, c.in_ok-at_prices.ensures, c.in_ok-past.ensures)
