-- Kind and edition, the counts, the figures: the first that is refused answers.
use Rattle.front_reader.proofs.FrontSteps.{no-front, front-off, front-no-counts, front-no-figures, front-done}
use Rattle.front_reader.proofs.read_front.Goals as goal

pub returns-in_err-edition : goal.returns-in_err-edition
returns-in_err-edition c = no-front _ _ _ c.from_residual.ensures (front-off _ _ c.in_err-edition.ensures)

pub returns-in_err-counts : goal.returns-in_err-counts
returns-in_err-counts c = no-front _ _ _ c.from_residual-in_err-counts.ensures (front-no-counts _ _ c.in_ok-edition.ensures c.in_err-counts.ensures.is)

pub returns-in_err-figures : goal.returns-in_err-figures
returns-in_err-figures c = no-front _ _ _ c.from_residual-in_err-figures.ensures (front-no-figures _ _ c.in_ok-edition.ensures _ c.in_ok-counts.ensures c.in_err-figures.ensures)

pub returns : goal.returns
returns c = front-done _ _ c.in_ok-edition.ensures _ c.in_ok-counts.ensures _ c.in_ok-figures.ensures
