-- On the line, and no reserve; another link asks for neither.
use mathlib.Core.Path.{refl}
use borrow.Author.Tests.{eq-eqb, ne_eqb}
use Rattle.std.proofs.Common.{ap, not}
use Rattle.numbers.specs.Tests.{never}
use Rattle.reactive_tests.specs.Tests.{equality_tests}
use Rattle.reactive_tests.specs.Held.{first-fails, second-tells, equality-free}
use Rattle.reactive_tests.proofs.equality_held.Goals as goal

pub returns-then-link-ne-EQUALITY : goal.returns-then-link-ne-EQUALITY
returns-then-link-ne-EQUALITY c = (λ e. equality-free _ _ _ _ _ _ (ne_eqb _ _ c.if-link-ne-EQUALITY.true), λ h. refl)

pub returns-then-on_line : goal.returns-then-on_line
unfolding equality_tests
returns-then-on_line c = rw (eq-eqb _ _ c.if-link-ne-EQUALITY.false) (second-tells 25 26 c.on_line.ensures (ap not c.if-on_line.true) c.none_held.ensures)

pub returns-else-on_line : goal.returns-else-on_line
unfolding equality_tests
returns-else-on_line c = rw (c.if-on_line.false, eq-eqb _ _ c.if-link-ne-EQUALITY.false) (λ e. never e, first-fails 25 _ c.on_line.ensures (ap not c.if-on_line.false))
