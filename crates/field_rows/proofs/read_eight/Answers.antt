use Rattle.fields.specs.Got.{nat-natural}
use Rattle.fields.proofs.Steps.{seen-exits}
use Rattle.field_rows.proofs.Steps.{eight-good, eight-bad}
use Rattle.field_rows.proofs.read_eight.Goals as goal

pub returns-in_err-past : goal.returns-in_err-past
returns-in_err-past c = seen-exits _ _ c.from_residual.ensures (search (eight-bad, nat-natural, c.in_err-past.ensures))

pub returns : goal.returns
returns c = search (eight-good, nat-natural, c.in_ok-past.ensures)
