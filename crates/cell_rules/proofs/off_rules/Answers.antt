-- The bits of rules 12 to 15, added.
use Rattle.cell_bounds.specs.Word.{one_bit, more-bits}
use Rattle.cell_bounds.specs.Tests.{off_tests}
use borrow.Author.Rules.{rules}
use Rattle.cell_rules.proofs.off_rules.Goals as goal

pub returns : goal.returns
unfolding off_tests
returns c = (
  more-bits 15 _ (more-bits 14 _
      (more-bits 13 _ (one_bit 12 c.bit_unless.ensures.0
      c.at_most.ensures) c.bit_unless-2.ensures.0
      c.at_most-2.ensures) c.bit_unless-3.ensures.0 c.at_most-3.ensures)
      c.bit_unless-4.ensures.0 c.none_held.ensures,
  search rules,
)
