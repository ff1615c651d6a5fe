-- By the law of each case.
use Rattle.spans.specs.Spans.{at-most-none, at-most-flat, at-most-some}
use borrow.Author.Rules.{rules}
use Rattle.spans.proofs.at_most.Goals as goal

pub returns-then-y-x : goal.returns-then-y-x
returns-then-y-x c = search (rules, at-most-none)

pub returns-then-slope-eq0 : goal.returns-then-slope-eq0
returns-then-slope-eq0 c = search (rules, at-most-flat)

pub returns-else-slope-eq0 : goal.returns-else-slope-eq0
returns-else-slope-eq0 c = search (rules, at-most-some)
