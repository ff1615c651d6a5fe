-- Three fields: the first that is refused answers.
use Rattle.layouts.specs.Layout.{◌then◌, such}
use Rattle.fields.specs.Got.{nat-natural}
use Rattle.fields.proofs.Steps.{on, off, seen-exits}
use Rattle.cell_groups.proofs.exact_limits.Goals as goal

pub returns-in_err-status : goal.returns-in_err-status
unfolding ◌then◌
returns-in_err-status c = seen-exits _ _ c.from_residual.ensures (search (off, nat-natural, c.in_err-status.ensures))

pub returns-in_err-pmin : goal.returns-in_err-pmin
unfolding ◌then◌
returns-in_err-pmin c = seen-exits _ _ c.from_residual-in_err-pmin.ensures (search (on, off, nat-natural, c.in_ok-status.ensures, c.in_err-pmin.ensures))

pub returns-in_err-pmax : goal.returns-in_err-pmax
unfolding ◌then◌ such
returns-in_err-pmax c = seen-exits _ _ c.from_residual-in_err-pmax.ensures (search (on, off, nat-natural, c.in_ok-status.ensures, c.in_ok-pmin.ensures, c.in_err-pmax.ensures))

pub returns : goal.returns
unfolding ◌then◌ such
returns c = rw c.noted.ensures (search (on, nat-natural, c.in_ok-status.ensures, c.in_ok-pmin.ensures, c.in_ok-pmax.ensures))
