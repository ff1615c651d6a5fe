-- The figures that every edition has, then the reactive ones, held as a setting.
use Rattle.layouts.specs.Layout.{held, ◌then◌}
use Rattle.model.specs.ByEdition.{setting}
use Rattle.fields.proofs.Steps.{on, off, seen-exits}
use Rattle.reactive_reader.proofs.Steps.{reactive-natural}
use Rattle.setting_reader.proofs.Steps.{active-natural}
use Rattle.setting_reader.proofs.read_setting.Goals as goal

pub returns-in_err-active : goal.returns-in_err-active
unfolding setting held ◌then◌
returns-in_err-active c = seen-exits _ _ c.from_residual.ensures (search (off, active-natural, c.in_err-active.ensures))

pub returns-in_err-reactive : goal.returns-in_err-reactive
unfolding setting held ◌then◌
returns-in_err-reactive c =
    seen-exits _ _ c.from_residual-in_err-reactive.ensures
    (search (on, off, active-natural, reactive-natural, c.in_ok-active.ensures, c.in_err-reactive.ensures))

pub returns : goal.returns
unfolding setting held ◌then◌
returns c = search (on, active-natural, reactive-natural, c.in_ok-active.ensures, c.in_ok-reactive.ensures)
