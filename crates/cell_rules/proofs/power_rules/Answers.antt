-- The bits of rules 16 to 19, added.
use Rattle.cell_bounds.specs.Word.{one_bit, more-bits}
use Rattle.cell_bounds.specs.Tests.{power_tests}
use borrow.Author.Rules.{rules}
use Rattle.cell_rules.proofs.power_rules.Goals as goal

pub returns : goal.returns
unfolding power_tests
returns c = (
  (let at-lid : _ = c in
      let at-floor : _ = at-lid in
      let at-roof : _ = at-floor in
      let at_less : _ = at-roof in
      more-bits 19 _ (more-bits 18 _
      (more-bits 17 _ (one_bit 16 c.bit_unless.ensures.0 at-roof.roof_kept-roof.ensures) c.bit_unless-2.ensures.0
      at-floor.floor_kept-floor.ensures) c.bit_unless-3.ensures.0 (rw at_less.less-forced.ensures at at-lid.roof_kept-lid.ensures))
      c.bit_unless-4.ensures.0 c.blocks_kept-carried.ensures),
  search rules,
)
