use Rattle.layouts.specs.Layout.{◌then◌}
use Rattle.reactive_zones.proofs.Steps.{prices-natural}
use Rattle.fields.proofs.Chains.{then-off, then-late, then-on}
use Rattle.fields.proofs.Steps.{seen-exits}
use Rattle.zone_reader.proofs.ZoneSteps.{terms-natural}
use Rattle.zone_reader.proofs.read_ahead.Goals as goal

pub returns-in_err-terms : goal.returns-in_err-terms
returns-in_err-terms c = seen-exits _ _ c.from_residual.ensures (then-off terms-natural _ _ _ c.in_err-terms.ensures)

pub returns-in_err-prices : goal.returns-in_err-prices
returns-in_err-prices c = seen-exits _ _ c.from_residual-in_err-prices.ensures (then-late terms-natural _ _ _ (prices-natural _) c.in_ok-terms.ensures c.in_err-prices.ensures)

pub returns : goal.returns
returns c = then-on terms-natural _ _ _ (prices-natural _) c.in_ok-terms.ensures c.in_ok-prices.ensures
