-- The bits of rules 7 to 11, added.
use Rattle.cell_bounds.specs.Word.{one_bit, more-bits}
use Rattle.cell_bounds.specs.Tests.{on_tests}
use borrow.Author.Rules.{rules}
use Rattle.cell_rules.proofs.on_rules.Goals as goal

pub returns : goal.returns
unfolding on_tests
returns c = (
  more-bits 11 _ (more-bits 10 _
      (more-bits 9 _ (more-bits 8 _ (one_bit 7 c.bit_unless.ensures.0
      c.at_most.ensures)
      c.bit_unless-2.ensures.0 c.at_most-2.ensures)
      c.bit_unless-3.ensures.0 c.at_most-3.ensures)
      c.bit_unless-4.ensures.0 c.at_most-4.ensures) c.bit_unless-5.ensures.0 c.at_most-5.ensures,
  search rules,
)
