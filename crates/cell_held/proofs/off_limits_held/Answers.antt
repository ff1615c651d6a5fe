-- Each limit in turn.
use mathlib.Core.Bool.{not}
use mathlib.Core.Path.{ap, ◌∙◌}
use borrow.Author.Tests.{leb-true, le-leb}
use native.Mathlib.Omega.{arith}
use Rattle.numbers.specs.Tests.{never}
use Rattle.cell_held.specs.Held.{passed, passed-last, refuted, off-limits, off-bounds}
use Rattle.cell_held.proofs.off_limits_held.Goals as goal

pub returns-then-ups-downs-gt0 : goal.returns-then-ups-downs-gt0
returns-then-ups-downs-gt0 c = let a : _ = c.args in
    (λ e. never e, λ h. absurd (omega (arith, h.none, (off-bounds a.d a.c a.s a.w c.requires.1 h.while-off).forbidden, c.by_side-forbidden.ensures.0, c.if-ups-downs-gt0.true)))

pub returns-then-not-at_most : goal.returns-then-not-at_most
returns-then-not-at_most c = let a : _ = c.args in
    (λ e. never e, λ h. refuted c.at_most.ensures (ap not c.if-not-at_most.true) (le-leb _ _ (off-bounds a.d a.c a.s a.w c.requires.1 h.while-off).nsc))

pub returns-then-not-at_most-2 : goal.returns-then-not-at_most-2
returns-then-not-at_most-2 c = let a : _ = c.args in
    (λ e. never e, λ h. refuted c.at_most-2.ensures (ap not c.if-not-at_most-2.true) (le-leb _ _ (off-bounds a.d a.c a.s a.w c.requires.1 h.while-off).up))

pub returns : goal.returns
returns c = let a : _ = c.args in (
  λ e. off-limits a.d a.c a.s a.w c.requires.1 (omega (
    arith,
    c.by_side-forbidden.ensures.0,
    c.if-ups-downs-gt0.false,
  ))
      (leb-true _ _ (passed c.at_most.ensures (ap not c.if-not-at_most.false)))
      (leb-true _ _ (passed c.at_most-2.ensures (ap not c.if-not-at_most-2.false)))
      (leb-true _ _ (passed-last c.at_most-3.ensures e)),
  λ h. c.at_most-3.ensures ∙ le-leb _ _ (off-bounds a.d a.c a.s a.w c.requires.1 h.while-off).down,
)
