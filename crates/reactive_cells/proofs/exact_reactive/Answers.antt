use Rattle.fields.proofs.Steps.{seen-exits}
use Rattle.fields.proofs.Chains.{then-off, then-late, then-on}
use Rattle.reactive_cells.proofs.Reactive.{limits-natural, prices-natural}
use Rattle.reactive_cells.proofs.exact_reactive.Goals as goal

pub returns-in_err-limits : goal.returns-in_err-limits
returns-in_err-limits c = seen-exits _ _ c.from_residual.ensures (then-off limits-natural _ _ _ c.in_err-limits.ensures)

pub returns-in_err-prices : goal.returns-in_err-prices
returns-in_err-prices c = seen-exits _ _ c.from_residual-in_err-prices.ensures (then-late limits-natural _ _ _ prices-natural c.in_ok-limits.ensures c.in_err-prices.ensures)

pub returns : goal.returns
returns c = then-on limits-natural _ _ _ prices-natural c.in_ok-limits.ensures c.in_ok-prices.ensures
