use Rattle.layouts.specs.Layout.{held, ◌then◌}
use Rattle.model.specs.ByEdition.{reactive_prices}
use Rattle.fields.specs.Got.{nat-natural}
use Rattle.fields.proofs.Steps.{on, off, seen-exits}
use Rattle.reactive_cells.proofs.Reactive.{prices-done}
use Rattle.reactive_cells.proofs.read_prices.Goals as goal

pub returns-in_err-qru : goal.returns-in_err-qru
unfolding reactive_prices held ◌then◌
returns-in_err-qru c = seen-exits _ _ c.from_residual.ensures (search (off, nat-natural, c.in_err-qru.ensures))

pub returns-in_err-qrd : goal.returns-in_err-qrd
unfolding reactive_prices held ◌then◌
returns-in_err-qrd c = seen-exits _ _ c.from_residual-in_err-qrd.ensures (search (on, off, nat-natural, c.in_ok-qru.ensures, c.in_err-qrd.ensures))

pub returns : goal.returns
returns c = search (prices-done, c.in_ok-qru.ensures, c.in_ok-qrd.ensures)
