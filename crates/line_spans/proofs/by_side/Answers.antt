-- By the side.
use borrow.Author.Rules.{rules}
use borrow.Author.Tests.{eq-eqb, ne_eqb}
use Rattle.line_spans.proofs.by_side.Goals as goal

pub returns-then-side-eq1 : goal.returns-then-side-eq1
returns-then-side-eq1 c = (simp (eq-eqb _ _ c.if-side-eq1.true), search rules)

pub returns-else-side-eq1 : goal.returns-else-side-eq1
returns-else-side-eq1 c = (simp (ne_eqb _ _ c.if-side-eq1.false), search rules)
