-- Once or not at all.
use Rattle.money.specs.Costs.{due-once, due-never}
use borrow.Author.Rules.{rules}
use Rattle.money.proofs.due.Goals as goal

pub returns-then-times-eq1 : goal.returns-then-times-eq1
returns-then-times-eq1 c = (due-once c.args.cost.0 c.args.times c.if-times-eq1.true, search rules)

pub returns-else-times-eq1 : goal.returns-else-times-eq1
returns-else-times-eq1 c = (due-never c.args.cost.0 c.args.times c.requires c.if-times-eq1.false, search rules)
