use Rattle.layouts.specs.Layout.{held, ◌then◌}
use Rattle.model.specs.ByEdition.{line}
use Rattle.fields.specs.Got.{int-natural}
use Rattle.fields.proofs.Steps.{on, off, seen-exits}
use Rattle.link_reader.proofs.read_line.Goals as goal

pub returns-in_err-offset : goal.returns-in_err-offset
unfolding line held ◌then◌
returns-in_err-offset c = seen-exits _ _ c.from_residual.ensures (search (off, int-natural, c.in_err-offset.ensures))

pub returns-in_err-slope : goal.returns-in_err-slope
unfolding line held ◌then◌
returns-in_err-slope c = seen-exits _ _ c.from_residual-in_err-slope.ensures (search (on, off, int-natural, c.in_ok-offset.ensures, c.in_err-slope.ensures))

pub returns : goal.returns
unfolding line held ◌then◌
returns c = search (on, int-natural, c.in_ok-offset.ensures, c.in_ok-slope.ensures)
