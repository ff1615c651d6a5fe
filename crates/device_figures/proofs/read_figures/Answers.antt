-- Group by group.
use Rattle.layouts.specs.Layout.{◌then◌}
use Rattle.fields.specs.Got.{nat-natural}
use Rattle.fields.proofs.Steps.{on, off, seen-exits}
use Rattle.field_rows.specs.Each.{row-natural}
use Rattle.field_rows.proofs.Steps.{eight-natural}
use Rattle.device_figures.proofs.read_figures.Goals as goal

pub returns-in_err-initial : goal.returns-in_err-initial
unfolding ◌then◌
returns-in_err-initial c = seen-exits _ _ c.from_residual.ensures (search (off, row-natural, c.in_err-initial.ensures))

pub returns-in_err-ramps : goal.returns-in_err-ramps
unfolding ◌then◌
returns-in_err-ramps c = seen-exits _ _ c.from_residual-in_err-ramps.ensures (search (on, off, row-natural, c.in_ok-initial.ensures, c.in_err-ramps.ensures))

pub returns-in_err-costs : goal.returns-in_err-costs
unfolding ◌then◌
returns-in_err-costs c =
    seen-exits _ _ c.from_residual-in_err-costs.ensures (search (on, off, row-natural, c.in_ok-initial.ensures, c.in_ok-ramps.ensures, c.in_err-costs.ensures))

pub returns-in_err-limits : goal.returns-in_err-limits
unfolding ◌then◌
returns-in_err-limits c =
    seen-exits _ _ c.from_residual-in_err-limits.ensures
    (search (on, off, row-natural, eight-natural, nat-natural, c.in_ok-initial.ensures, c.in_ok-ramps.ensures, c.in_ok-costs.ensures, c.in_err-limits.ensures) depth 8)

pub returns : goal.returns
unfolding ◌then◌
returns c = search (on, row-natural, eight-natural, nat-natural, c.in_ok-initial.ensures, c.in_ok-ramps.ensures, c.in_ok-costs.ensures, c.in_ok-limits.ensures) depth 8
