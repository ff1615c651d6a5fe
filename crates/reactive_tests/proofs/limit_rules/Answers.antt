-- The bits of rules 21 and 22, added, with the reserves of the side.
use Rattle.cell_bounds.specs.Word.{one_bit, more-bits}
use Rattle.reactive_tests.specs.Tests.{limit_tests}
use borrow.Author.Rules.{rules}
use Rattle.reactive_tests.proofs.limit_rules.Goals as goal

pub returns : goal.returns
unfolding limit_tests
returns c = (
  more-bits 22 _ (one_bit 21 c.bit_unless.ensures.0 (rw c.by_side-up.ensures.0 at c.below_limit-roof.ensures))
      c.bit_unless-2.ensures.0 (rw c.by_side-down.ensures.0 at c.above_limit-floor.ensures),
  search rules,
)
