use Rattle.plan_reader.proofs.Turns.{filling-none, filling-more, filling-off, filling-done}
use borrow.Author.Rules.{rules}
use Rattle.plan_reader.proofs.read_settings.Goals as goal

pub loop-i-init : goal.loop-i-init
loop-i-init c = filling-none c.requires.0.full

pub returns-in_err-q : goal.returns-in_err-q
returns-in_err-q c = filling-off c.loop-i.invariant (search rules) c.requires.1 _ c.from_residual.ensures c.in_err-q.ensures

pub loop-i-preserved : goal.loop-i-preserved
loop-i-preserved c = filling-more c.loop-i.invariant (search rules) c.requires.1 c.in_ok-q.ensures

pub returns : goal.returns
returns c = filling-done c.loop-i.invariant c.requires.0.some (search rules)
