-- Item 3 by the fields that a completion of the case's edition has: "any choice of whole numbers, .. one for each field of the completion message between the zone
-- count and the surplus". An edition before 2 has no field of reactive power, one before 5 none of bar 1: a completion of such an edition is one whose choices
-- there are 0, for they are no choices.
use Rattle.std.specs.Prelude.{◌≡◌, false, ℕ, ◌+◌, ◌*◌, ◌≤◌, get_or, nat_abs, ◌+ℤ◌, ◌-ℤ◌, ◌*ℤ◌}
use Rattle.std.proofs.Math.Path.{refl, ap, fun_ext}
use Rattle.std.proofs.Common.{◌∙◌, arith}
use Rattle.std.proofs.Math.Nat.{mul-zero}
use Rattle.std.proofs.Math.IntN.{ℤ, pos}
use Rattle.numbers.specs.Base.{up_to}
use Rattle.numbers.specs.Bounds.{bound-add}
use Rattle.numbers.specs.Sum.{sumℤ}
use Rattle.numbers.specs.Z.{whole as whole_numbers, n+, n-}
use Rattle.layouts.specs.Since.{has}
use Rattle.model.specs.Case.{System, Plan, Case, ReactiveReserves, no_kinds}
use Rattle.model.specs.Forced.{intervals, devices, zones, duration, setting}
use Rattle.model.specs.Completion as C
use Rattle.model.specs.Completion.{Completion, surplus_of}
use Rattle.model.specs.OneBar as O
use Rattle.ranges.specs.Plain.{SystemPlain, PlanPlain}
use Rattle.theorems.specs.Plain.{no-reactive, sum-none}
use Rattle.theorems.proofs.Plain.{times_none, none-zero}
use Rattle.theorems.specs.OfEdition.{OfEdition}

-- ---- the surplus of a completion of an older edition is that edition's
module _ (c : Case) (p : Plan) (x : Completion ℤ) where
  abbrev q : System
  q = c.system

  free : (d m z : ℤ) → z ≡ pos 0 → nat_abs (d *ℤ (m *ℤ z)) ≤ 0
  free d m z e = times_none d (m *ℤ z) (times_none m z (rw e (omega arith)))

  one_of_two : (f : ℕ → ℕ → ℤ) → ((t : ℕ) → f t 1 ≡ pos 0) → ◌≡◌ {A = ℕ → ℤ} (λ t. sumℤ (f t) C.bars) (λ t. f t 0)
  one_of_two f h = fun_ext (λ t. rw (h t) (omega (whole_numbers, n+ (f t 0) (pos 0 +ℤ pos 0), n+ (pos 0) (pos 0))))

  -- "Item 2's one busbar then stands for editions 1 to 4": one mismatch of each kind is paid for
  pub surplus-of-one : (e : ℕ) → has 5 e ≡ false → OfEdition e x → surplus_of c p x ≡ O.surplus_of c p x
  unfolding surplus_of O.surplus_of C.real_surplus O.real_surplus C.reactive_costs O.reactive_costs C.mismatch_cost C.reactive_mismatch_cost
  surplus-of-one e h o = rw (
    one_of_two (λ t b. pos (duration q t) *ℤ (pos c.prices.mismatch *ℤ x.mismatch t b)) (λ t. none-zero _ (free (pos (duration q t)) (pos c.prices.mismatch) _ (o.second h t))),
    one_of_two (λ t b. pos (duration q t) *ℤ (pos c.prices.mismatch *ℤ x.reactive_mismatch t b))
        (λ t. none-zero _ (free (pos (duration q t)) (pos c.prices.mismatch) _ (o.second_reactive h t))),
  ) refl

  module _ (hs : SystemPlain q) (hp : PlanPlain p) (e : ℕ) (h : has 2 e ≡ false) (o : OfEdition e x) where
    reserves-free : (t i : ℕ) → nat_abs (C.reactive_reserves_cost c p x t i) ≤ 0
    unfolding C.reactive_reserves_cost C.reactive_reserve_cost
    reserves-free t i = times_none (pos (duration q t)) (pos (C.reactive_reserve_cost (C.cell_prices c t i).reactive (setting q p t i).reactive))
        (rw (no-reactive q p hs hp t i) (nothing-held (C.cell_prices c t i).reactive))
      where
        nothing-held : (a : ReactiveReserves) → a.qru * 0 + a.qrd * 0 ≤ 0
        nothing-held a = omega (arith, mul-zero a.qru, mul-zero a.qrd)

    shortfalls-free : (t z : ℕ) → nat_abs (C.reactive_shortfall_cost c p x t z) ≤ 0
    unfolding C.reactive_shortfall_cost
    shortfalls-free t z = times_none (pos (duration q t)) (sumℤ term C.reactive_shortfalls) (sum-none term C.reactive_shortfalls (λ k.
        times_none (pos (C.reactive_price (get_or c.prices.zones z no_kinds).reactive k)) (x.reactive_shortfall t z k) (rw (o.reactive_shortfall h t z k) (omega arith))))
      where
        term : C.ReactiveShortfall → ℤ
        term k = pos (C.reactive_price (get_or c.prices.zones z no_kinds).reactive k) *ℤ x.reactive_shortfall t z k

    mismatch-free : (t : ℕ) → nat_abs (C.reactive_mismatch_cost c p x t 0) ≤ 0
    unfolding C.reactive_mismatch_cost
    mismatch-free t = free (pos (duration q t)) (pos c.prices.mismatch) (x.reactive_mismatch t 0) (o.reactive_mismatch h t 0)

    day-none : (n : ℕ) (f : ℕ → ℕ → ℤ) → ((t k : ℕ) → nat_abs (f t k) ≤ 0) → nat_abs (sumℤ (λ t. sumℤ (f t) (up_to n)) (up_to (intervals q))) ≤ 0
    day-none n f g = sum-none (λ t. sumℤ (f t) (up_to n)) (up_to (intervals q)) (λ t. sum-none (f t) (up_to n) (λ k. g t k))

    costs-free : O.reactive_costs c p x ≡ pos 0
    unfolding O.reactive_costs
    costs-free = none-zero (A +ℤ B +ℤ E) (bound-add (A +ℤ B) E 0 0
        (bound-add A B 0 0 (day-none (devices q) (C.reactive_reserves_cost c p x) reserves-free) (day-none (zones q) (C.reactive_shortfall_cost c p x) shortfalls-free))
        (sum-none (λ t. C.reactive_mismatch_cost c p x t 0) (up_to (intervals q)) mismatch-free))
      where
        A : ℤ
        A = sumℤ (λ t. sumℤ (C.reactive_reserves_cost c p x t) (up_to (devices q))) (up_to (intervals q))

        B : ℤ
        B = sumℤ (λ t. sumℤ (C.reactive_shortfall_cost c p x t) (up_to (zones q))) (up_to (intervals q))

        E : ℤ
        E = sumℤ (λ t. C.reactive_mismatch_cost c p x t 0) (up_to (intervals q))

    -- of an edition that knows no reactive power, the surplus of real power
    pub surplus-of-real : has 5 e ≡ false → surplus_of c p x ≡ O.real_surplus c p x
    unfolding O.surplus_of
    surplus-of-real k = surplus-of-one e k o ∙ ap (λ (z : ℤ). O.real_surplus c p x -ℤ z) costs-free ∙ omega (whole_numbers, n- (O.real_surplus c p x) (pos 0))
