-- No online power, the roof, room.
use native.Mathlib.Omega.{arith}
use mathlib.Core.Path.{◌∙◌}
use Rattle.numbers.specs.Tests.{never}
use Rattle.cell_held.specs.Held.{passed-last, off-powers, powers-off}
use Rattle.cell_held.proofs.off_powers_held.Goals as goal

pub returns-then-s-gt0 : goal.returns-then-s-gt0
returns-then-s-gt0 c = let a : _ = c.args in
    (λ e. never e, λ h. absurd (omega (arith, (powers-off a.d a.c a.s a.w c.requires.1 h).none, c.if-s-gt0.true)))

pub returns-then-c-roof : goal.returns-then-c-roof
returns-then-c-roof c = let a : _ = c.args in
    (λ e. never e, λ h. absurd (omega (arith, (powers-off a.d a.c a.s a.w c.requires.1 h).roof, c.by_side-offline.ensures.0, c.if-c-roof.true)))

pub returns : goal.returns
returns c = let a : _ = c.args in (
  λ e. off-powers a.d a.c a.s a.w c.requires.1
      c.requires.2
      (omega (arith, c.if-s-gt0.false)) (omega
      (arith, c.by_side-offline.ensures.0, c.if-c-roof.false)) (passed-last c.room_kept.ensures e),
  λ h. c.room_kept.ensures ∙ (powers-off a.d a.c a.s a.w c.requires.1 h).caps,
)
