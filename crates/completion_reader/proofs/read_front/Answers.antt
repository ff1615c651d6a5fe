-- The first field that is refused answers; the counts behind them.
use Rattle.layouts.specs.Layout.{held, ◌then◌}
use Rattle.fields.specs.Got.{nat-natural}
use Rattle.fields.proofs.Steps.{on, off, exits}
use Rattle.completion_reader.specs.Fronts.{header}
use Rattle.completion_reader.proofs.read_front.Goals as goal

pub returns-in_err-at_edition : goal.returns-in_err-at_edition
unfolding header held ◌then◌
returns-in_err-at_edition c = search (exits, off, nat-natural, c.in_err-at_edition.ensures)

pub returns-in_err-at_counts : goal.returns-in_err-at_counts
unfolding header held ◌then◌
returns-in_err-at_counts c = search (exits, on, off, nat-natural, c.in_ok-at_edition.ensures, c.in_err-at_counts.ensures)

pub returns : goal.returns
unfolding header held ◌then◌
returns c = search (on, nat-natural, c.in_ok-at_edition.ensures, c.in_ok-at_counts.ensures)
