-- Roof, floor, no forced power, the blocks' floors, their caps.
use native.Mathlib.Omega.{arith}
use mathlib.Core.Bool.{not}
use mathlib.Core.Path.{ap, ◌∙◌}
use Rattle.numbers.specs.Tests.{never}
use Rattle.cell_held.specs.Held.{passed, passed-last, refuted, on-powers, powers-on}
use Rattle.cell_held.proofs.on_powers_held.Goals as goal

pub returns-then-c-roof : goal.returns-then-c-roof
returns-then-c-roof c =
    let a : _ = c.args in
    (λ e. never e, λ h. absurd (omega (arith, (powers-on a.d a.c a.s a.w c.requires.1 h).roof, c.by_side-raising.ensures.0, c.if-c-roof.true)))

pub returns-then-s-floor : goal.returns-then-s-floor
returns-then-s-floor c =
    let a : _ = c.args in
    (λ e. never e, λ h. absurd (omega (arith, (powers-on a.d a.c a.s a.w c.requires.1 h).floor, c.by_side-lowering.ensures.0, c.if-s-floor.true)))

pub returns-then-s-w : goal.returns-then-s-w
returns-then-s-w c =
    let a : _ = c.args in
    (λ e. never e, λ h. absurd (omega (arith, (powers-on a.d a.c a.s a.w c.requires.1 h).whole, c.if-s-w.true)))

pub returns-then-not-floors_kept : goal.returns-then-not-floors_kept
returns-then-not-floors_kept c =
    let a : _ = c.args in
    (λ e. never e, λ h. refuted c.floors_kept.ensures (ap not c.if-not-floors_kept.true) (powers-on a.d a.c a.s a.w c.requires.1 h).floors)

pub returns : goal.returns
returns c =
    let a : _ = c.args in (
      λ e. on-powers a.d a.c a.s a.w c.requires.1 c.requires.2
          (omega (arith, c.by_side-raising.ensures.0, c.if-c-roof.false))
          (omega (arith, c.by_side-lowering.ensures.0, c.if-s-floor.false)) (omega (arith, c.if-s-w.false))
          (passed c.floors_kept.ensures (ap not c.if-not-floors_kept.false)) (passed-last c.room_kept.ensures e),
      λ h. c.room_kept.ensures ∙ (powers-on a.d a.c a.s a.w c.requires.1 h).caps,
    )
