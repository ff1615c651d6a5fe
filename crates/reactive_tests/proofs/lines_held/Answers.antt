-- Both comparisons in turn, with the reserves of the side; another link has none.
use mathlib.Core.Path.{refl}
use borrow.Author.Tests.{eq-eqb, ne_eqb}
use Rattle.std.proofs.Common.{ap, not}
use Rattle.numbers.specs.Tests.{never}
use Rattle.reactive_tests.specs.Tests.{line_tests}
use Rattle.reactive_tests.specs.Held.{first-fails, second-tells, lines-free}
use Rattle.reactive_tests.proofs.lines_held.Goals as goal

pub returns-then-link-ne-TWO_LINES : goal.returns-then-link-ne-TWO_LINES
returns-then-link-ne-TWO_LINES c = (λ e. lines-free _ _ _ _ _ _ (ne_eqb _ _ c.if-link-ne-TWO_LINES.true), λ h. refl)

pub returns-then-below_line : goal.returns-then-below_line
unfolding line_tests
returns-then-below_line c = rw (eq-eqb _ _ c.if-link-ne-TWO_LINES.false) (second-tells 23 24
    (rw c.by_side-up.ensures.0 at c.below_line.ensures) (ap not c.if-below_line.true)
    (rw c.by_side-down.ensures.0 at c.above_line.ensures))

pub returns-else-below_line : goal.returns-else-below_line
unfolding line_tests
returns-else-below_line c = rw (c.if-below_line.false, eq-eqb _ _ c.if-link-ne-TWO_LINES.false)
    (λ e. never e, first-fails 23 _ (rw c.by_side-up.ensures.0 at c.below_line.ensures) (ap not c.if-below_line.false))
