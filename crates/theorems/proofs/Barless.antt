-- Where every set stands on bar 0 and nothing flows, the mismatch of bar 0 is that of one busbar and there is none on another, rule 27 holds, and our completion,
-- its surplus and the list of breaches are those of before.
use Rattle.std.specs.Prelude.{◌≡◌, Bool, eqb, ℤ, ◌+ℤ◌, ◌-ℤ◌, ◌*ℤ◌}
use Rattle.std.proofs.Math.Path.{refl, ap, ap₂, fun_ext}
use Rattle.std.proofs.Common.{◌∙◌, arith}
use Rattle.std.proofs.Math.Bool.{true, false, not}
use mathlib.Core.List.{List, [], ◌++◌, append-nil}
use Prim.Native.Nat.{ℕ, zero, suc, ◌+◌}
use borrow.Author.Tests.{ne_eqb}
use Rattle.std.proofs.Math.IntN.{pos, nat_abs}
use Rattle.numbers.specs.Sum.{all, sumℤ, sumℕ}
use Rattle.numbers.specs.Gather.{gather_cong}
use Rattle.numbers.specs.Base.{up_to, gather}
use Rattle.numbers.specs.Z.{whole as whole_numbers, n+}
use Rattle.bits.specs.Pick.{pick}
use Rattle.model.specs.declared.Breach.{Breach}
use Rattle.model.specs.Case.{System, Plan, Case}
use Rattle.model.specs.Forced.{intervals, devices, consuming, on_bar, duration, setting}
use Rattle.model.specs.Breaches.{failing, cell_breaches, link_breaches, interval_breaches, all_windows, breaches}
use Rattle.model.specs.Completion as C
use Rattle.model.specs.Completion.{Completion}
use Rattle.model.specs.Ours.{ours, whole, with_mismatches}
use Rattle.model.specs.OneBar as O
use Rattle.ranges.specs.Barless.{SystemBarless, PlanBarless}
use Rattle.theorems.proofs.Plain.{times_none, none-zero}
use Rattle.theorems.specs.Barless.{bar-0, no-flow, other-bar, other-bar-reactive, q}

plus_none : (z : ℤ) → z +ℤ pos 0 ≡ z
plus_none z = omega (whole_numbers, n+ z (pos 0))

module _ (q : System) (p : Plan) (hs : SystemBarless q) (hp : PlanBarless p) where
  -- bar 0 has every set
  on-0 : (i : ℕ) → on_bar q 0 i ≡ true
  on-0 i = rw ((bar-0 q p hs hp) i) refl

  total-0 : (s : Bool) (t : ℕ) → C.total q p s t 0 ≡ O.total q p s t
  unfolding C.total O.total
  total-0 true t = ap (λ (f : ℕ → ℕ). sumℕ f (up_to (devices q))) (fun_ext (λ i. rw (on-0 i) refl))
  total-0 false t = ap (λ (f : ℕ → ℕ). sumℕ f (up_to (devices q))) (fun_ext (λ i. rw (on-0 i) refl))

  pub one-bar : (t : ℕ) → C.mismatch_need q p t 0 ≡ O.mismatch_need q p t
  unfolding C.mismatch_need O.mismatch_need
  one-bar t = rw ((no-flow q p hs hp) t, total-0 true t, total-0 false t) (ap nat_abs (plus_none (pos (O.total q p true t) -ℤ pos (O.total q p false t))))

  side-0 : (s : Bool) (t : ℕ) → C.reactive_total q p s t 0 ≡ O.reactive_total q p s t
  unfolding C.reactive_total O.reactive_total
  side-0 true t = ap (λ (f : ℕ → ℤ). sumℤ f (up_to (devices q))) (fun_ext (λ i. rw (on-0 i) refl))
  side-0 false t = ap (λ (f : ℕ → ℤ). sumℤ f (up_to (devices q))) (fun_ext (λ i. rw (on-0 i) (turned (consuming q i) (setting q p t i).reactive.q)))
    where
      turned : (b : Bool) (z : ℤ) → pick (not b) z (pos 0) ≡ pick b (pos 0) z
      turned true z = refl
      turned false z = refl

  pub one-bar-reactive : (t : ℕ) → C.reactive_mismatch_need q p t 0 ≡ O.reactive_mismatch_need q p t
  unfolding C.reactive_mismatch_need O.reactive_mismatch_need
  one-bar-reactive t = rw (side-0 true t, side-0 false t) refl

  -- ---- rules
  link-holds : (t : ℕ) → link_breaches q p t ≡ []
  unfolding link_breaches failing
  link-holds t = rw ((no-flow q p hs hp) t, hs.link_limit) refl

  pub breaches-on-one : breaches q p ≡ O.breaches q p
  unfolding breaches O.breaches
  breaches-on-one = ap (λ (bs : List Breach). bs ++ all_windows q p)
      (gather_cong (interval_breaches q p) _ (up_to (intervals q)) (all (λ t.
      ap (λ (bs : List Breach). gather (cell_breaches q p t) (up_to (devices q)) ++ bs) (link-holds t) ∙ append-nil (gather (cell_breaches q p t) (up_to (devices q)))) (up_to (intervals q))))

-- ---- the completion and its surplus
module _ (c : Case) (p : Plan) (hs : SystemBarless c.system) (hp : PlanBarless p) where
  real-needs : C.mismatch_need (q c p hs hp) p ≡ (λ t b. pick (eqb b 0) (O.mismatch_need (q c p hs hp) p t) 0)
  real-needs = fun_ext (λ t. fun_ext (λ b. go t b))
    where
      go : (t b : ℕ) → C.mismatch_need (q c p hs hp) p t b ≡ pick (eqb b 0) (O.mismatch_need (q c p hs hp) p t) 0
      go t zero = one-bar (q c p hs hp) p hs hp t
      go t (suc b) = rw (ne_eqb (suc b) 0 (λ e. omega arith)) (other-bar (q c p hs hp) p hs hp t b)

  reactive-needs : C.reactive_mismatch_need (q c p hs hp) p ≡ (λ t b. pick (eqb b 0) (O.reactive_mismatch_need (q c p hs hp) p t) 0)
  reactive-needs = fun_ext (λ t. fun_ext (λ b. go t b))
    where
      go : (t b : ℕ) → C.reactive_mismatch_need (q c p hs hp) p t b ≡ pick (eqb b 0) (O.reactive_mismatch_need (q c p hs hp) p t) 0
      go t zero = one-bar-reactive (q c p hs hp) p hs hp t
      go t (suc b) = rw (ne_eqb (suc b) 0 (λ e. omega arith)) (other-bar-reactive (q c p hs hp) p hs hp t b)

  pub ours-on-one : ours c p ≡ O.ours c p
  unfolding ours O.ours
  ours-on-one = ap₂ (λ (m r : ℕ → ℕ → ℕ). with_mismatches m r (ours c p)) real-needs reactive-needs

  abbrev our : Completion ℤ
  our = whole (O.ours c p)

  -- nothing is paid for on bar 1
  mismatch-free : (t : ℕ) → C.mismatch_cost c p our t 1 ≡ pos 0
  unfolding C.mismatch_cost whole O.ours
  mismatch-free t = none-zero _ (times_none (pos (duration (q c p hs hp) t)) (pos c.prices.mismatch *ℤ pos 0) (times_none (pos c.prices.mismatch) (pos 0) (omega arith)))

  reactive-free : (t : ℕ) → C.reactive_mismatch_cost c p our t 1 ≡ pos 0
  unfolding C.reactive_mismatch_cost whole O.ours
  reactive-free t = none-zero _ (times_none (pos (duration (q c p hs hp) t)) (pos c.prices.mismatch *ℤ pos 0) (times_none (pos c.prices.mismatch) (pos 0) (omega arith)))

  one_of_two : (f : ℕ → ℕ → ℤ) → ((t : ℕ) → f t 1 ≡ pos 0) → ◌≡◌ {A = ℕ → ℤ} (λ t. sumℤ (f t) C.bars) (λ t. f t 0)
  one_of_two f h = fun_ext (λ t. rw (h t) (omega (whole_numbers, n+ (f t 0) (pos 0 +ℤ pos 0), n+ (pos 0) (pos 0))))

  pub surplus-on-one : C.surplus_of c p our ≡ O.surplus_of c p our
  unfolding C.surplus_of O.surplus_of C.real_surplus O.real_surplus C.reactive_costs O.reactive_costs
  surplus-on-one = rw (one_of_two (C.mismatch_cost c p our) mismatch-free, one_of_two (C.reactive_mismatch_cost c p our) reactive-free) refl
