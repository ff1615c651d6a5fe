-- The kind, start and end, then the energy.
use Rattle.layouts.specs.Layout.{held, ◌then◌}
use Rattle.model.specs.Messages.{energy_window}
use Rattle.fields.specs.Got.{nat-natural}
use Rattle.fields.proofs.Steps.{on, off, seen-exits}
use Rattle.item_reader.specs.Naturals.{ends-natural}
use Rattle.item_reader.proofs.read_energy.Goals as goal

pub returns-in_err-kind : goal.returns-in_err-kind
unfolding energy_window held ◌then◌
returns-in_err-kind c = seen-exits _ _ c.from_residual.ensures (search (off, nat-natural, c.in_err-kind.ensures))

pub returns-in_err-from : goal.returns-in_err-from
unfolding energy_window held ◌then◌
returns-in_err-from c = seen-exits _ _ c.from_residual-in_err-from.ensures (search (on, off, nat-natural, ends-natural, c.in_ok-kind.ensures, c.in_err-from.ensures))

pub returns-in_err-energy : goal.returns-in_err-energy
unfolding energy_window held ◌then◌
returns-in_err-energy c =
    seen-exits _ _ c.from_residual-in_err-energy.ensures (search (on, off, nat-natural, ends-natural, c.in_ok-kind.ensures, c.in_ok-from.ensures, c.in_err-energy.ensures))

pub returns : goal.returns
unfolding energy_window held ◌then◌
returns c = search (on, nat-natural, ends-natural, c.in_ok-kind.ensures, c.in_ok-from.ensures, c.in_ok-energy.ensures)
