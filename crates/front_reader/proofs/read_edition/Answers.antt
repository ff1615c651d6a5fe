-- The kind, then the edition: the first that is refused answers.
use Rattle.layouts.specs.Layout.{held, ◌then◌}
use Rattle.fields.specs.Got.{nat-natural}
use Rattle.fields.proofs.Steps.{on, off, exits}
use Rattle.front_reader.proofs.read_edition.Goals as goal

pub returns-in_err-at_edition : goal.returns-in_err-at_edition
unfolding held ◌then◌
returns-in_err-at_edition c = search (exits, off, nat-natural, c.in_err-at_edition.ensures)

pub returns : goal.returns
unfolding held ◌then◌
returns c = search (on, nat-natural, c.in_ok-at_edition.ensures)
