-- Laws of the splitter: what stands at a byte of a batch, by the facts that decide it, and what each answer tells.
use Prim.Native.Nat.{ℕ, ◌+◌, ◌-◌, ◌*◌, ◌≤◌, ◌<◌}
use mathlib.Core.Path.{◌≡◌, refl, ap, ◌∙◌, sym, subst}
use mathlib.Core.Bool.{Bool, true, false}
use mathlib.Core.Logic.{⊎_elim}
use mathlib.Core.List.{List, [], ◌∷◌}
use lib.Dec.{leb, ltb}
use borrow.Author.Tests.{leb-true, leb-false, ltb-true, ltb-false}
use native.Mathlib.Omega.{arith}
use types.Run.{OneOf}
use denote.Enum.Declared.{tag_of}
use Rattle.layouts.specs.contracts.Framed.{the_type}
use Rattle.bits.specs.Pick.{pick, at_most, not-at-most, below, not-below}
use Rattle.bits.specs.Bits.{field_at, reach}
use Rattle.layouts.specs.Framing.{framed_at, part, bytes_of, message_at}
use Rattle.layouts.specs.Split.{Lies, length_cut, too_long, message-cut, Tells, Splits}
use Rattle.layouts.specs.declared.Fault.TheVariants.{Cut, OutOfRange}
use Rattle.layouts.specs.declared.Framed.{Framed}
use Rattle.layouts.specs.declared.Framed.TheVariants.{End, Message, Refused}
use Rattle.bits.proofs.Laws.{reaches}

-- the five answers, each by the tests on its way, for a length n that was read
module _ (limit : ℕ) (s : List ℕ) (at : ℕ) where
  pub no_byte : reach s ≤ at → End ≡ framed_at limit s at
  unfolding framed_at
  no_byte h = at_most _ _ (reach s) at h refl

  pub cut-in-length : at < reach s → reach s < at + 3 → Refused (Cut (8 * at)) ≡ framed_at limit s at
  unfolding framed_at
  cut-in-length h g = not-at-most _ _ (reach s) at h (below _ _ (reach s) (at + 3) g refl)

  module _ {n : ℕ} (e : n ≡ field_at s (8 * at) 24) (h : at + 3 ≤ reach s) where
    pub above-limit : limit < n → Refused (OutOfRange (8 * at)) ≡ framed_at limit s at
    unfolding framed_at
    above-limit g =
        not-at-most _ _ (reach s) at (omega arith) (not-below _ _ (reach s) (at + 3) h (below _ _ limit (field_at s (8 * at) 24) (omega arith) refl))

    pub cut-in-message : n ≤ limit → reach s < at + 3 + n → Refused (Cut (8 * at)) ≡ framed_at limit s at
    unfolding framed_at
    cut-in-message g k =
        not-at-most _ _ (reach s) at (omega arith)
        (not-below _ _ (reach s) (at + 3) h
        (not-below _ _ limit (field_at s (8 * at) 24) (omega arith)
        (below _ _ (reach s) (at + 3 + field_at s (8 * at) 24) (omega arith) refl)))

    pub message : n ≤ limit → at + 3 + n ≤ reach s → Message (at + 3) (at + 3 + n) ≡ framed_at limit s at
    unfolding framed_at
    message g k =
        not-at-most _ _ (reach s) at (omega arith)
        (not-below _ _ (reach s) (at + 3) h
        (not-below _ _ limit (field_at s (8 * at) 24) (omega arith)
        (not-below _ _ (reach s) (at + 3 + field_at s (8 * at) 24) (omega arith) (ap (λ (k : ℕ). Message (at + 3) (at + 3 + k)) e))))

by-test : {A : Type 0} (P : A → Type 0) (t : Bool) {a b : A} → (t ≡ true → P a) → (t ≡ false → P b) → P (pick t a b)
by-test P true h k = h refl
by-test P false h k = k refl

pub tells : (limit : ℕ) (s : List ℕ) (at : ℕ) → Tells limit s at (framed_at limit s at)
unfolding framed_at
tells limit s at =
    let n = field_at s (8 * at) 24 in
    let P = Tells limit s at in
    by-test P (leb (reach s) at) (leb-true (reach s) at)
    (λ a. let a' = leb-false (reach s) at a in
    by-test P (ltb (reach s) (at + 3)) (λ b. record { left = a'; number = length_cut (ltb-true (reach s) (at + 3) b); first = refl })
    (λ b. let b' = ltb-false (reach s) (at + 3) b in
    by-test P (ltb limit n) (λ d. record { left = a'; number = too_long b' (ltb-true limit n d); first = refl })
    (λ d. let d' = ltb-false limit n d in
    by-test P (ltb (reach s) (at + 3 + n)) (λ e. record { left = a'; number = message-cut b' d' (ltb-true (reach s) (at + 3 + n) e); first = refl })
    (λ e. let e' = ltb-false (reach s) (at + 3 + n) e in
    let R = reaches s in
    record { behind = refl; long = refl; reached = e'; within = omega arith; ordered = omega arith; limited = omega arith }))))

-- the bytes of an answer that a match told to be no message: `End` is variant 0, `Refused` is variant 2
no_bytes : (s : List ℕ) (r : Framed) → OneOf (0 ∷ 2 ∷ []) (tag_of the_type r) → bytes_of s r ≡ []
no_bytes s End k = refl
no_bytes s (Message from until) k = absurd (⊎_elim (λ e. omega arith) (λ e. omega arith) k)
no_bytes s (Refused f) k = refl

-- what `frame_at` answers
pub splits : {limit : ℕ} {s : List ℕ} {at : ℕ} {r : Framed} → r ≡ framed_at limit s at → Splits limit s at r
splits {limit} {s} {at} e = record { is = e; tells = rw e (tells limit s at) }

-- for a caller: what an answer of `frame_at` tells, by what a match told of it, and the bytes that `message_at` hands back
module _ (limit : ℕ) (s : List ℕ) (at : ℕ) {r : Framed} (e : r ≡ framed_at limit s at) where
  pub lies : {from until : ℕ} → r ≡ Message from until → Lies limit s at from until
  lies t = subst (Tells limit s at) (sym e ∙ t) (tells limit s at)

  pub some : {from until : ℕ} → r ≡ Message from until → part s from until ≡ message_at limit s at
  unfolding message_at
  some t = rw (sym e ∙ t) refl

  pub none : OneOf (0 ∷ 2 ∷ []) (tag_of the_type r) → [] ≡ message_at limit s at
  unfolding message_at
  none k = sym (rw (sym e) (no_bytes s r k))
