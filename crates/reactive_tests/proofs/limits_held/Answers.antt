-- Both comparisons in turn, with the reserves of the side.
use Rattle.std.proofs.Common.{ap, not}
use Rattle.numbers.specs.Tests.{never}
use Rattle.reactive_tests.specs.Tests.{limit_tests}
use Rattle.reactive_tests.specs.Held.{first-fails, second-tells}
use Rattle.reactive_tests.proofs.limits_held.Goals as goal

pub returns-then-below_limit : goal.returns-then-below_limit
unfolding limit_tests
returns-then-below_limit c = second-tells 21 22 (rw c.by_side-up.ensures.0 at c.below_limit.ensures) (ap not c.if-below_limit.true)
    (rw c.by_side-down.ensures.0 at c.above_limit.ensures)

pub returns-else-below_limit : goal.returns-else-below_limit
unfolding limit_tests
returns-else-below_limit c = rw c.if-below_limit.false (λ e. never e, first-fails 21 _ (rw c.by_side-up.ensures.0 at c.below_limit.ensures) (ap not c.if-below_limit.false))
