-- Where a case and a plan know no reactive power, nothing of it is short, apart or paid for, and no rule of it fails.
use Rattle.std.specs.Prelude.{◌≡◌, Bool, ◌&&◌, ℕ, ◌*◌, ◌≤◌, length, get_or, nat_abs}
use Rattle.std.proofs.Math.Path.{refl, ap}
use Rattle.std.proofs.Common.{arith}
use Rattle.std.proofs.Math.Bool.{true, false, not}
use mathlib.Core.List.{List, []}
use Rattle.std.proofs.Math.Nat.{mul-zero}
use Rattle.std.proofs.Math.IntN.{ℤ, pos}
use Rattle.numbers.specs.Laws.{max_zero, above-is}
use Rattle.numbers.specs.Sum.{All, all, sumℤ}
use Rattle.numbers.specs.Bounds.{bound-sub, bound-sum}
use Rattle.numbers.specs.Every.{all-or}
use Rattle.numbers.specs.Base.{up_to}
use Rattle.bits.specs.Pick.{pick}
use Rattle.model.specs.Case.{System, Plan, Case, ReactiveReserves, no_reactive, no_reactive_reserves, no_setting, no_zone, no_minima}
use Rattle.model.specs.Forced.{devices, zones, zone, consuming, on_bar, setting}
use Rattle.model.specs.Completion as C
use Rattle.model.specs.Before as P
use Rattle.ranges.specs.Plain.{SystemPlain, ZonePlain, PlanPlain}

pub sum-none : {A : Type 0} (f : A → ℤ) (ks : List A) → ((k : A) → nat_abs (f k) ≤ 0) → nat_abs (sumℤ f ks) ≤ 0
sum-none f ks h = omega (arith, bound-sum f 0 ks (all {P = λ k. nat_abs (f k) ≤ 0} h ks), mul-zero (length ks))

pub either-none : (b : Bool) → nat_abs (pick b (pos 0) (pos 0)) ≤ 0
either-none true = omega arith
either-none false = omega arith

-- ---- needs
module _ (q : System) (p : Plan) (hs : SystemPlain q) (hp : PlanPlain p) where
  pub no-reactive : (t i : ℕ) → (setting q p t i).reactive ≡ no_reactive
  no-reactive t i = all-or (λ s. s.reactive ≡ no_reactive) no_setting refl (get_or p.settings t [])
      (all-or (λ row. All (λ s. s.reactive ≡ no_reactive) row) [] tt p.settings hp.settings t) i

  pub no-minima : (t z : ℕ) → (get_or (zone q z).minima t no_minima).reactive ≡ no_reactive_reserves
  no-minima t z = all-or (λ m. m.reactive ≡ no_reactive_reserves) no_minima refl (zone q z).minima (all-or ZonePlain no_zone (record { minima = tt }) q.zones hs.zones z).minima t

  none-required : (t z : ℕ) (k : C.ReactiveShortfall) → C.reactive_required q p t z k ≡ 0
  unfolding C.reactive_required
  none-required t z C.qru = ap (λ (r : ReactiveReserves). 1000 * r.qru) (no-minima t z)
  none-required t z C.qrd = ap (λ (r : ReactiveReserves). 1000 * r.qrd) (no-minima t z)

  pub none-short : (t z : ℕ) (k : C.ReactiveShortfall) → max_zero (C.reactive_need q p t z k) ≡ 0
  unfolding C.reactive_need
  none-short t z k = omega (arith, above-is (C.reactive_required q p t z k) (1000 * C.reactive_held q p t z k), none-required t z k)

  side-none : (s : Bool) (t b : ℕ) → nat_abs (C.reactive_total q p s t b) ≤ 0
  unfolding C.reactive_total
  side-none true t b = sum-none _ (up_to (devices q)) (λ i. rw (no-reactive t i) (either-none (on_bar q b i && consuming q i)))
  side-none false t b = sum-none _ (up_to (devices q)) (λ i. rw (no-reactive t i) (either-none (on_bar q b i && not (consuming q i))))

  pub none_apart : (t b : ℕ) → C.reactive_mismatch_need q p t b ≡ 0
  unfolding C.reactive_mismatch_need
  none_apart t b = omega (arith, bound-sub (C.reactive_total q p true t b) (C.reactive_total q p false t b) 0 0 (side-none true t b) (side-none false t b))

module _ (c : Case) (p : Plan) (hs : SystemPlain c.system) (hp : PlanPlain p) where
  abbrev pub q : System
  q = c.system
