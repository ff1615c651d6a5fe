-- The groups in turn.
use mathlib.Core.Path.{sym, ◌∙◌}
use Rattle.numbers.specs.Tests.{never}
use Rattle.reactive_tests.specs.Held.{groups, tests-hold}
use Rattle.reactive_tests.proofs.figures_held.Goals as goal

pub returns-then-not-limits_held : goal.returns-then-not-limits_held
returns-then-not-limits_held c = (λ e. never e, λ h. sym c.if-not-limits_held.true ∙ c.limits_held.ensures.1 (groups _ _ _ _ _ _ h).limits)

pub returns-then-not-lines_held : goal.returns-then-not-lines_held
returns-then-not-lines_held c = (λ e. never e, λ h. sym c.if-not-lines_held.true ∙ c.lines_held.ensures.1 (groups _ _ _ _ _ _ h).lines)

pub returns : goal.returns
returns c = (
  λ e. tests-hold _ _ _ _ _ _ record {
    limits = c.limits_held.ensures.0 c.if-not-limits_held.false;
    lines = c.lines_held.ensures.0 c.if-not-lines_held.false;
    equal = c.equality_held.ensures.0 e;
  },
  λ h. c.equality_held.ensures.1 (groups _ _ _ _ _ _ h).equal,
)
