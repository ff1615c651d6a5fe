-- The bits of rules 5 and 6, added.
use Rattle.cell_bounds.specs.Word.{one_bit, more-bits}
use Rattle.cell_bounds.specs.Tests.{ramp_tests}
use borrow.Author.Rules.{rules}
use Rattle.cell_rules.proofs.ramp_rules.Goals as goal

pub returns : goal.returns
unfolding ramp_tests
returns c = (
  more-bits 6 _ (one_bit 5 c.bit_unless.ensures.0 c.rise_kept-rise.ensures) c.bit_unless-2.ensures.0
      c.fall_kept-fall.ensures,
  search rules,
)
