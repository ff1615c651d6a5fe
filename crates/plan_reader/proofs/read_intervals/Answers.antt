use Rattle.fields.proofs.Steps.{told-exits}
use Rattle.plan_reader.proofs.Turns.{planning-none, planning-more, planning-off, planning-done}
use borrow.Author.Rules.{rules}
use Rattle.plan_reader.proofs.read_intervals.Goals as goal

pub loop-t-init : goal.loop-t-init
loop-t-init c = planning-none c.requires.full

pub returns-in_err-q : goal.returns-in_err-q
returns-in_err-q c = told-exits _ _ c.from_residual.ensures (planning-off c.loop-t.invariant (search rules) c.in_err-q.ensures)

pub loop-t-preserved : goal.loop-t-preserved
loop-t-preserved c = planning-more c.loop-t.invariant (search rules) (search rules) c.in_ok-q.ensures

pub returns : goal.returns
returns c = planning-done c.loop-t.invariant (search rules)
