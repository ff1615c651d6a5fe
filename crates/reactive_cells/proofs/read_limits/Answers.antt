use Rattle.layouts.specs.Layout.{held, ◌then◌, such}
use Rattle.model.specs.ByEdition.{reactive_limits}
use Rattle.fields.specs.Got.{int-natural}
use Rattle.fields.proofs.Steps.{on, off, seen-exits}
use Rattle.reactive_cells.proofs.Reactive.{limits-done}
use Rattle.reactive_cells.proofs.read_limits.Goals as goal

pub returns-in_err-qmin : goal.returns-in_err-qmin
unfolding reactive_limits held ◌then◌
returns-in_err-qmin c = seen-exits _ _ c.from_residual.ensures (search (off, int-natural, c.in_err-qmin.ensures))

pub returns-in_err-qmax : goal.returns-in_err-qmax
unfolding reactive_limits held ◌then◌ such
returns-in_err-qmax c = seen-exits _ _ c.from_residual-in_err-qmax.ensures (search (on, off, int-natural, c.in_ok-qmin.ensures, c.in_err-qmax.ensures))

pub returns : goal.returns
returns c = search (limits-done, c.in_ok-qmin.ensures, c.in_ok-qmax.ensures)
