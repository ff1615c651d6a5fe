-- Each limit in turn.
use mathlib.Core.Bool.{not}
use mathlib.Core.Path.{ap, ◌∙◌}
use borrow.Author.Tests.{leb-true, le-leb}
use native.Mathlib.Omega.{arith}
use Rattle.numbers.specs.Tests.{never}
use Rattle.cell_held.specs.Held.{passed, passed-last, refuted, on-limits, on-bounds}
use Rattle.cell_held.proofs.on_limits_held.Goals as goal

pub returns-then-not-at_most : goal.returns-then-not-at_most
returns-then-not-at_most c = let a : _ = c.args in
    (λ e. never e, λ h. refuted c.at_most.ensures (ap not c.if-not-at_most.true) (le-leb _ _ (on-bounds a.d a.c a.s a.w c.requires.1 h.while-on).rgu))

pub returns-then-not-at_most-2 : goal.returns-then-not-at_most-2
returns-then-not-at_most-2 c = let a : _ = c.args in
    (λ e. never e, λ h. refuted c.at_most-2.ensures (ap not c.if-not-at_most-2.true) (le-leb _ _ (on-bounds a.d a.c a.s a.w c.requires.1 h.while-on).rgd))

pub returns-then-not-at_most-3 : goal.returns-then-not-at_most-3
returns-then-not-at_most-3 c = let a : _ = c.args in
    (λ e. never e, λ h. refuted c.at_most-3.ensures (ap not c.if-not-at_most-3.true) (le-leb _ _ (on-bounds a.d a.c a.s a.w c.requires.1 h.while-on).scr))

pub returns-then-not-at_most-4 : goal.returns-then-not-at_most-4
returns-then-not-at_most-4 c = let a : _ = c.args in
    (λ e. never e, λ h. refuted c.at_most-4.ensures (ap not c.if-not-at_most-4.true) (le-leb _ _ (on-bounds a.d a.c a.s a.w c.requires.1 h.while-on).up))

pub returns : goal.returns
returns c = let a : _ = c.args in (
  λ e. on-limits a.d a.c a.s a.w c.requires.1 (omega (arith, c.if-e-gt0.false))
      (leb-true _ _ (passed c.at_most.ensures (ap not c.if-not-at_most.false)))
      (leb-true _ _ (passed c.at_most-2.ensures (ap not c.if-not-at_most-2.false)))
      (leb-true _ _ (passed c.at_most-3.ensures (ap not c.if-not-at_most-3.false)))
      (leb-true _ _ (passed c.at_most-4.ensures (ap not c.if-not-at_most-4.false)))
      (leb-true _ _ (passed-last c.at_most-5.ensures e)),
  λ h. c.at_most-5.ensures ∙ le-leb _ _ (on-bounds a.d a.c a.s a.w c.requires.1 h.while-on).down,
)
