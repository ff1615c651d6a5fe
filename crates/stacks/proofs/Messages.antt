-- The messages of a batch, "each behind a 24-bit byte length".
use Rattle.std.specs.Prelude.{◌≡◌}
use Rattle.std.proofs.Math.Path.{refl, ap}
use Rattle.std.proofs.Common.{sym, ◌∙◌, subst, arith}
use mathlib.Core.List.{List, []}
use Prim.Native.Nat.{ℕ, zero, suc, ◌+◌, ◌-◌, ◌≤◌}
use Rattle.std.proofs.Math.ListN.{length}
use Rattle.bits.specs.Bits.{reach}
use Rattle.bits.proofs.Laws.{reaches}
use Rattle.layouts.specs.declared.Fault.{Fault}
use Rattle.layouts.specs.declared.Framed.{Framed}
use Rattle.layouts.specs.declared.Framed.TheVariants as B
use Rattle.layouts.specs.Framing.{framed_at, part}
use Rattle.layouts.specs.Split.{Stands, Tells}
use Rattle.layouts.specs.Layout.{Whole, passes, fails}
use Rattle.layouts.proofs.Frames.{tells, no_byte, lies}
use Rattle.stacks.specs.declared.Counted.TheVariants.{Refused}
use Rattle.stacks.specs.Messages.{ahead, messages_from, messages_in}

-- ---- by what the splitter finds
module _ (limit : ℕ) (s : List ℕ) where
  abbrev by_frame : ℕ → Framed → Whole (List (List ℕ))
  by_frame n x = elim x [
    | B.End ↦ passes []
    | B.Message from until ↦ ahead (part s from until) (messages_in limit s n until)
    | B.Refused f ↦ fails f
  ]

  by-frame : (n at : ℕ) {x : Framed} → framed_at limit s at ≡ x → messages_in limit s (suc n) at ≡ by_frame n x
  unfolding messages_in
  by-frame n at e = ap (by_frame n) e

  -- no byte left, no message
  in_end : (n at : ℕ) → reach s ≤ at → messages_in limit s n at ≡ passes []
  unfolding messages_in
  in_end zero at h = refl
  in_end (suc n) at h = by-frame n at (sym (no_byte limit s at h))

  same-go : (n m at : ℕ) → ((until : ℕ) → at + 3 ≤ until → messages_in limit s n until ≡ messages_in limit s m until)
      → (x : Framed) → framed_at limit s at ≡ x → Tells limit s at x → messages_in limit s (suc n) at ≡ messages_in limit s (suc m) at
  same-go n m at more B.End e t = by-frame n at e ∙ sym (by-frame m at e)
  same-go n m at more (B.Refused f) e t = by-frame n at e ∙ sym (by-frame m at e)
  same-go n m at more (B.Message from until) e t = by-frame n at e ∙ ap (ahead (part s from until)) (more until (omega arith)) ∙ sym (by-frame m at e)

  -- a bound that is large enough does not matter
  in-same : (n m at : ℕ) → reach s ≤ at + n → reach s ≤ at + m → messages_in limit s n at ≡ messages_in limit s m at
  in-same zero m at h k = in_end zero at (omega arith) ∙ sym (in_end m at (omega arith))
  in-same (suc n) zero at h k = in_end (suc n) at (omega arith) ∙ sym (in_end zero at (omega arith))
  in-same (suc n) (suc m) at h k = same-go n m at (λ until l. in-same n m until (omega arith) (omega arith)) (framed_at limit s at) refl (tells limit s at)

  module _ (at : ℕ) {x : Framed} (e : x ≡ framed_at limit s at) where
    from_next : (n : ℕ) → length s ≡ suc n → messages_from limit s at ≡ by_frame n x
    unfolding messages_from
    from_next n l = rw l (by-frame n at (sym e))

    pub from_end : x ≡ B.End → messages_from limit s at ≡ passes []
    unfolding messages_from messages_in
    from_end t = go (length s) refl
      where
        go : (n : ℕ) → length s ≡ n → messages_from limit s at ≡ passes []
        go zero l = rw l refl
        go (suc n) l = from_next n l ∙ ap (by_frame n) t

    -- a byte is left
    pub from-refused : {f : Fault} → x ≡ B.Refused f → messages_from limit s at ≡ fails f
    from-refused {f} t = go (length s) refl
      where
        go : (n : ℕ) → length s ≡ n → messages_from limit s at ≡ fails f
        go zero l = let h : Stands limit s at f = subst (Tells limit s at) (sym e ∙ t) (tells limit s at) in absurd (omega (arith, h.left, reaches s))
        go (suc n) l = from_next n l ∙ ap (by_frame n) t

    pub from-message : {from until : ℕ} → x ≡ B.Message from until → messages_from limit s at ≡ ahead (part s from until) (messages_from limit s until)
    unfolding messages_from
    from-message {from} {until} t = go (length s) refl
      where
        go : (n : ℕ) → length s ≡ n → messages_from limit s at ≡ ahead (part s from until) (messages_from limit s until)
        go zero l = let h = lies limit s at e t in absurd (omega (arith, h.behind, h.ordered, h.within))
        go (suc n) l = let h = lies limit s at e t in
            from_next n l ∙ ap (by_frame n) t
            ∙ ap (ahead (part s from until)) (in-same n (length s) until (omega (arith, h.behind, h.ordered, reaches s)) (omega (arith, reaches s)))
