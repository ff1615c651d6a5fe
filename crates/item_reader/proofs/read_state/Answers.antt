-- The longest downtime, then the cost.
use Rattle.layouts.specs.Layout.{◌then◌}
use Rattle.fields.specs.Got.{nat-natural, int-natural}
use Rattle.fields.proofs.Steps.{on, off, seen-exits}
use Rattle.item_reader.proofs.read_state.Goals as goal

pub returns-in_err-longest : goal.returns-in_err-longest
unfolding ◌then◌
returns-in_err-longest c = seen-exits _ _ c.from_residual.ensures (search (off, nat-natural, c.in_err-longest.ensures))

pub returns-in_err-cost : goal.returns-in_err-cost
unfolding ◌then◌
returns-in_err-cost c = seen-exits _ _ c.from_residual-in_err-cost.ensures (search (on, off, nat-natural, int-natural, c.in_ok-longest.ensures, c.in_err-cost.ensures))

pub returns : goal.returns
unfolding ◌then◌
returns c = search (on, nat-natural, int-natural, c.in_ok-longest.ensures, c.in_ok-cost.ensures)
