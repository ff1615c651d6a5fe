-- The tail of a message by its first fill bit that is 1, and its end by the tail and the first contradiction.
use mathlib.Core.Path.{◌≡◌, refl, ap, sym, ◌∙◌}
use mathlib.Core.List.{List}
use Prim.Native.Nat.{ℕ, suc, ◌+◌, ◌-◌, ◌*◌, ◌/◌, ◌≤◌, ◌<◌}
use native.Mathlib.Numerals.{add-one}
use native.Mathlib.Omega.{arith}
use borrow.Author.Tests.{lt-ltb, le-ltb, eq-eqb, ne_eqb}
use lib.Dec.{ltb, eqb}
use lib.ListN.{length}
use Rattle.bits.specs.Bits.{field_at, bit_at, reach}
use Rattle.bits.specs.Pick.{pick}
use Rattle.layouts.specs.declared.Fault.TheVariants as E
use Rattle.layouts.specs.declared.Clash.{Clash}
use Rattle.layouts.specs.declared.Clash.TheVariants.{Clear, At}
use Rattle.layouts.specs.Layout.{or_else, first_one, tail_fault}
use Rattle.std.specs.Prelude.{Ok, Err}
use Rattle.message_ends.specs.Ended.{ending_of}

-- the first bit that is 1, one turn of the search
module _ (s : List ℕ) (at end i : ℕ) (inv : first_one s at (end - at) ≡ first_one s i (end - i)) where
  one-step : i < end → first_one s i (end - i) ≡ pick (eqb (bit_at s i) 0) (first_one s (suc i) (end - (i + 1))) (At i)
  unfolding first_one
  one-step h = let k : end - i ≡ suc (end - (i + 1)) = omega arith in rw k refl

  pub one_found : i < end → (bit_at s i ≡ 0 → ⊥) → At i ≡ first_one s at (end - at)
  one_found h n = sym (inv ∙ one-step h ∙ rw (ne_eqb (bit_at s i) 0 n) refl)

  pub one-next : i < end → bit_at s i ≡ 0 → first_one s at (end - at) ≡ first_one s (i + 1) (end - (i + 1))
  one-next h e = inv ∙ one-step h ∙ rw (eq-eqb (bit_at s i) 0 e, add-one) refl

  pub one_none : end ≤ i → Clear ≡ first_one s at (end - at)
  unfolding first_one
  one_none h = let k : end - i ≡ 0 = omega arith in sym (inv ∙ rw k refl)

pub one_bit : (s : List ℕ) (i : ℕ) → field_at s i 1 ≡ bit_at s i
unfolding field_at
one_bit s i = let e : i + 0 ≡ i = omega arith in rw e (omega arith)

-- the bytes that can be read are some of those that there are, and their bits can be counted
pub reach-fits : (s : List ℕ) → (reach s ≤ length s) × (reach s ≤ 2305843009213693951)
unfolding reach
reach-fits s = (omega arith, omega arith)

-- the tail, by the first fill bit that is 1
module _ (s : List ℕ) (at : ℕ) {fill : Clash} (e : fill ≡ first_one s at (8 * ((at + 7) / 8) - at)) where
  tail-is : (x : Clash) → fill ≡ x → tail_fault s at ≡ or_else x (pick (ltb ((at + 7) / 8) (length s)) (At (8 * ((at + 7) / 8))) Clear)
  unfolding tail_fault
  tail-is x t = ap (λ (y : Clash). or_else y (pick (ltb ((at + 7) / 8) (length s)) (At (8 * ((at + 7) / 8))) Clear)) (sym e ∙ t)

  pub tail-fill : {b : ℕ} → fill ≡ At b → fill ≡ tail_fault s at
  tail-fill {b} t = t ∙ sym (tail-is (At b) t)

  pub tail-surplus : fill ≡ Clear → (at + 7) / 8 < length s → At (8 * ((at + 7) / 8)) ≡ tail_fault s at
  tail-surplus t h = sym (tail-is Clear t ∙ rw (lt-ltb ((at + 7) / 8) (length s) h) refl)

  pub tail_none : fill ≡ Clear → length s ≤ (at + 7) / 8 → Clear ≡ tail_fault s at
  tail_none t h = sym (tail-is Clear t ∙ rw (le-ltb ((at + 7) / 8) (length s) h) refl)

-- the end, by the tail and the first contradiction
module _ (t c : Clash) {x : Clash} (e : x ≡ t) where
  pub ends-tail : {b : ℕ} → x ≡ At b → Err (E.Tail b) ≡ ending_of t c
  ends-tail h = ap (λ (y : Clash). ending_of y c) (sym h ∙ e)

  pub ends-clash : {b : ℕ} → x ≡ Clear → c ≡ At b → Err (E.Contradiction b) ≡ ending_of t c
  ends-clash h k = ap (λ (y : Clash). ending_of Clear y) (sym k) ∙ ap (λ (y : Clash). ending_of y c) (sym h ∙ e)

  pub ends-well : x ≡ Clear → c ≡ Clear → Ok tt ≡ ending_of t c
  ends-well h k = ap (λ (y : Clash). ending_of Clear y) (sym k) ∙ ap (λ (y : Clash). ending_of y c) (sym h ∙ e)
