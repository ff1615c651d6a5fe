-- The bits of rules 1 to 4, added.
use mathlib.Core.Path.{refl}
use Rattle.cell_bounds.specs.Word.{one_bit, more-bits}
use Rattle.cell_bounds.specs.Tests.{state_tests}
use borrow.Author.Rules.{rules}
use Rattle.cell_rules.proofs.state_rules.Goals as goal

pub returns : goal.returns
unfolding state_tests
returns c = (
  more-bits 4 _ (more-bits 3 _
      (more-bits 2 _ (one_bit 1 c.bit_unless.ensures.0 c.status_kept-fixed.ensures)
      c.bit_unless-2.ensures.0 c.initial_kept-held.ensures) c.bit_unless-3.ensures.0 refl) c.bit_unless-4.ensures.0 refl,
  search rules,
)
