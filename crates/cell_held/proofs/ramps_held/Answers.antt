-- Rules 5 and 6 in turn.
use mathlib.Core.Bool.{not}
use mathlib.Core.Path.{ap, ◌∙◌}
use Rattle.cell_bounds.specs.Word.{no_test, test-holds, each-held}
use Rattle.cell_bounds.specs.Tests.{ramp_tests}
use Rattle.numbers.specs.Tests.{never}
use Rattle.cell_held.specs.Held.{passed, passed-last, refuted}
use Rattle.cell_held.proofs.ramps_held.Goals as goal

pub returns-then-not-rise_kept : goal.returns-then-not-rise_kept
unfolding ramp_tests
returns-then-not-rise_kept c = (λ e. never e, λ h. refuted c.rise_kept.ensures (ap not c.if-not-rise_kept.true) (each-held _ h).0)

pub returns : goal.returns
unfolding ramp_tests
returns c = (
  λ e. test-holds 5 _ (passed c.rise_kept.ensures (ap not c.if-not-rise_kept.false)) (test-holds 6 _ (passed-last c.fall_kept.ensures e) no_test),
  λ h. c.fall_kept.ensures ∙ (each-held _ h).1.0,
)
