-- The bits of rules 23 and 24, added, with the reserves of the side; none of another link.
use mathlib.Core.Path.{sym}
use borrow.Author.Tests.{eq-eqb, ne_eqb}
use Rattle.cell_bounds.specs.Word.{one_bit, more-bits}
use Rattle.reactive_tests.specs.Tests.{line_tests, no_lines}
use borrow.Author.Rules.{rules}
use Rattle.reactive_tests.proofs.line_rules.Goals as goal

pub returns-then-link-ne-TWO_LINES : goal.returns-then-link-ne-TWO_LINES
returns-then-link-ne-TWO_LINES c = (sym (no_lines _ _ _ _ _ _ (ne_eqb _ _ c.if-link-ne-TWO_LINES.true)), search rules)

pub returns : goal.returns
unfolding line_tests
returns c = (
  rw (eq-eqb _ _ c.if-link-ne-TWO_LINES.false) (more-bits 24 _ (one_bit 23 c.bit_unless.ensures.0 (rw
      c.by_side-up.ensures.0 at c.below_line-roof.ensures))
      c.bit_unless-2.ensures.0 (rw c.by_side-down.ensures.0 at c.above_line-floor.ensures)),
  search rules,
)
