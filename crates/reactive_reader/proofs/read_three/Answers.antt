-- The first field that is refused answers, else the three.
use Rattle.layouts.specs.Layout.{held, ◌then◌}
use Rattle.model.specs.ByEdition.{reactive}
use Rattle.fields.specs.Got.{nat-natural, int-natural}
use Rattle.fields.proofs.Steps.{on, off, seen-exits}
use Rattle.reactive_reader.proofs.read_three.Goals as goal

pub returns-in_err-q : goal.returns-in_err-q
unfolding reactive held ◌then◌
returns-in_err-q c = seen-exits _ _ c.from_residual.ensures (search (off, int-natural, c.in_err-q.ensures))

pub returns-in_err-qru : goal.returns-in_err-qru
unfolding reactive held ◌then◌
returns-in_err-qru c = seen-exits _ _ c.from_residual-in_err-qru.ensures (search (on, off, nat-natural, int-natural, c.in_ok-q.ensures, c.in_err-qru.ensures))

pub returns-in_err-qrd : goal.returns-in_err-qrd
unfolding reactive held ◌then◌
returns-in_err-qrd c =
    seen-exits _ _ c.from_residual-in_err-qrd.ensures (search (on, off, nat-natural, int-natural, c.in_ok-q.ensures, c.in_ok-qru.ensures, c.in_err-qrd.ensures))

pub returns : goal.returns
unfolding reactive held ◌then◌
returns c = search (on, nat-natural, int-natural, c.in_ok-q.ensures, c.in_ok-qru.ensures, c.in_ok-qrd.ensures)
