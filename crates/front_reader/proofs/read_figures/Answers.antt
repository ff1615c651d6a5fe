-- The prices, then the limit.
use Rattle.fields.proofs.Steps.{seen-exits}
use Rattle.front_reader.proofs.FrontSteps.{figures-off, figures-late, figures-on}
use Rattle.front_reader.proofs.read_figures.Goals as goal

pub returns-in_err-mismatch : goal.returns-in_err-mismatch
returns-in_err-mismatch c = seen-exits _ _ c.from_residual.ensures (figures-off _ _ _ c.in_err-mismatch.ensures)

pub returns-in_err-limit : goal.returns-in_err-limit
returns-in_err-limit c = seen-exits _ _ c.from_residual-in_err-limit.ensures (figures-late _ _ _ c.in_ok-mismatch.ensures c.in_err-limit.ensures)

pub returns : goal.returns
returns c = figures-on _ _ _ c.in_ok-mismatch.ensures c.in_ok-limit.ensures
