use Prim.Native.Nat.{◌-◌}
use mathlib.Core.Path.{refl, ◌∙◌, sym}
use Rattle.message_ends.proofs.Steps.{one_found, one-next, one_none, one_bit}
use Rattle.message_ends.proofs.first_one.Goals as goal

pub loop-i-init : goal.loop-i-init
loop-i-init c = refl

pub returns-then-bits_at-ne0 : goal.returns-then-bits_at-ne0
returns-then-bits_at-ne0 c =
    let l : _ = c.loop-i in
    one_found _ _ _ l.i l.invariant c.loop-i-test.true (λ e. c.if-bits_at-ne0.true (c.bits_at.ensures ∙ one_bit _ _ ∙ e))

pub loop-i-preserved : goal.loop-i-preserved
loop-i-preserved c =
    let l : _ = c.loop-i in
    one-next _ _ _ l.i l.invariant c.loop-i-test.true (sym (one_bit _ _) ∙ sym c.bits_at.ensures ∙ c.if-bits_at-ne0.false)

pub returns : goal.returns
returns c = let l : _ = c.loop-i in one_none _ _ _ l.i l.invariant c.loop-i-test.false
