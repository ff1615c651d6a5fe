-- The bits of rules 25 and 26, added; none of another link.
use mathlib.Core.Path.{sym}
use borrow.Author.Tests.{eq-eqb, ne_eqb}
use Rattle.cell_bounds.specs.Word.{one_bit, more-bits}
use Rattle.reactive_tests.specs.Tests.{equality_tests, no-equality}
use borrow.Author.Rules.{rules}
use Rattle.reactive_tests.proofs.equality_rules.Goals as goal

pub returns-then-link-ne-EQUALITY : goal.returns-then-link-ne-EQUALITY
returns-then-link-ne-EQUALITY c = (sym (no-equality _ _ _ _ _ _ (ne_eqb _ _ c.if-link-ne-EQUALITY.true)), search rules)

pub returns : goal.returns
unfolding equality_tests
returns c = (
  rw (eq-eqb _ _ c.if-link-ne-EQUALITY.false) (more-bits 26 _ (one_bit 25 c.bit_unless.ensures.0 c.on_line-on.ensures)
      c.bit_unless-2.ensures.0 c.none_held-free.ensures),
  search rules,
)
