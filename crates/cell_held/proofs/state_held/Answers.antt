-- Rules 1 to 4 in turn.
use mathlib.Core.Bool.{not}
use mathlib.Core.Path.{ap, refl}
use Rattle.cell_bounds.specs.Word.{no_test, test-holds, each-held}
use Rattle.cell_bounds.specs.Tests.{state_tests}
use Rattle.numbers.specs.Tests.{never}
use Rattle.cell_held.specs.Held.{passed, refuted}
use Rattle.cell_held.proofs.state_held.Goals as goal

pub returns-then-not-status_kept : goal.returns-then-not-status_kept
unfolding state_tests
returns-then-not-status_kept c = (λ e. never e, λ h. refuted c.status_kept.ensures (ap not c.if-not-status_kept.true) (each-held _ h).0)

pub returns-then-not-initial_kept : goal.returns-then-not-initial_kept
unfolding state_tests
returns-then-not-initial_kept c = (λ e. never e, λ h. refuted c.initial_kept.ensures (ap not c.if-not-initial_kept.true) (each-held _ h).1.0)

pub returns-then-not-w : goal.returns-then-not-w
unfolding state_tests
returns-then-not-w c = (λ e. never e, λ h. refuted refl c.if-not-w.true (each-held _ h).1.1.0)

pub returns : goal.returns
unfolding state_tests
returns c = (
  λ e. test-holds 1 _ (passed c.status_kept.ensures (ap not c.if-not-status_kept.false))
      (test-holds 2 _ (passed c.initial_kept.ensures (ap not c.if-not-initial_kept.false)) (test-holds 3 _ (passed refl c.if-not-w.false) (test-holds 4 _ e no_test))),
  λ h. (each-held _ h).1.1.1.0,
)
