use Rattle.layouts.specs.Layout.{held, ◌then◌}
use Rattle.model.specs.ByEdition.{link}
use Rattle.fields.specs.Got.{nat-natural}
use Rattle.fields.proofs.Steps.{on, off, seen-exits}
use Rattle.link_reader.proofs.Links.{there-natural}
use Rattle.link_reader.proofs.read_kind.Goals as goal

pub returns-in_err-kind : goal.returns-in_err-kind
unfolding link held ◌then◌
returns-in_err-kind c = seen-exits _ _ c.from_residual.ensures (search (off, nat-natural, c.in_err-kind.ensures))

pub returns-in_err-upper : goal.returns-in_err-upper
unfolding link held ◌then◌
returns-in_err-upper c = seen-exits _ _ c.from_residual-in_err-upper.ensures (search (on, off, nat-natural, there-natural, c.in_ok-kind.ensures, c.in_err-upper.ensures))

pub returns-in_err-lower : goal.returns-in_err-lower
unfolding link held ◌then◌
returns-in_err-lower c = seen-exits _ _ c.from_residual-in_err-lower.ensures (search (on, off, nat-natural, there-natural, c.in_ok-kind.ensures, c.in_ok-upper.ensures, c.in_err-lower.ensures))

pub returns : goal.returns
unfolding link held ◌then◌
returns c = search (on, nat-natural, there-natural, c.in_ok-kind.ensures, c.in_ok-upper.ensures, c.in_ok-lower.ensures)
