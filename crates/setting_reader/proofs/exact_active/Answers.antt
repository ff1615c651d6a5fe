-- The first field that is refused answers, else the eight.
use Rattle.layouts.specs.Layout.{◌then◌}
use Rattle.model.specs.Messages.{active}
use Rattle.fields.specs.Got.{nat-natural}
use Rattle.fields.proofs.Steps.{on, off, seen-exits}
use Rattle.field_rows.proofs.Steps.{eight-natural}
use Rattle.setting_reader.proofs.exact_active.Goals as goal

pub returns-in_err-on : goal.returns-in_err-on
unfolding active ◌then◌
returns-in_err-on c = seen-exits _ _ c.from_residual.ensures (search (off, nat-natural, c.in_err-on.ensures))

pub returns-in_err-online : goal.returns-in_err-online
unfolding active ◌then◌
returns-in_err-online c = seen-exits _ _ c.from_residual-in_err-online.ensures (search (on, off, nat-natural, c.in_ok-on.ensures, c.in_err-online.ensures))

pub returns-in_err-values : goal.returns-in_err-values
unfolding active ◌then◌
returns-in_err-values c =
    seen-exits _ _ c.from_residual-in_err-values.ensures
    (search (on, off, nat-natural, eight-natural, c.in_ok-on.ensures, c.in_ok-online.ensures, c.in_err-values.ensures))

pub returns : goal.returns
unfolding active ◌then◌
returns c = rw c.reserves_of.ensures (search (on, nat-natural, eight-natural, c.in_ok-on.ensures, c.in_ok-online.ensures, c.in_ok-values.ensures))
