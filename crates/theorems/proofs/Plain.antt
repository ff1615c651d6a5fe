-- Where a case and a plan know no reactive power, nothing of it is short, apart or paid for, and no rule of it fails.
use Rattle.std.specs.Prelude.{◌≡◌, Bool, ℕ, ◌+◌, ◌*◌, ◌≤◌, get_or, negsuc, nat_abs, ◌+ℤ◌, ◌-ℤ◌, ◌*ℤ◌}
use Rattle.std.proofs.Math.Path.{refl, ap}
use Rattle.std.proofs.Common.{◌∙◌, arith}
use Rattle.std.proofs.Math.Bool.{true, false}
use mathlib.Core.List.{List, [], ◌∷◌, ◌++◌, map, append-nil}
use Rattle.std.proofs.Math.Nat.{mul-zero, zero-mul}
use Rattle.std.proofs.Math.IntN.{ℤ, pos}
use Rattle.numbers.specs.Laws.{max_zero}
use Rattle.numbers.specs.Sum.{all, sumℤ}
use Rattle.numbers.specs.Bounds.{bound-sub, bound-add, bound-mul}
use Rattle.numbers.specs.Every.{all-or}
use Rattle.numbers.specs.Gather.{gather_cong}
use Rattle.std.specs.Int.Signed.{le_z}
use Rattle.numbers.specs.Base.{up_to}
use Rattle.numbers.specs.Z.{whole, n-}
use Rattle.model.specs.Case.{System, Plan, Case, ReactiveReserves, no_reactive, no_reactive_limits, no_device, no_cell, no_kinds}
use Rattle.model.specs.Forced.{intervals, devices, zones, device, cell, consuming, duration, setting, bracket}
use Rattle.model.specs.Completion as C
use Rattle.model.specs.OneBar as B
use Rattle.model.specs.Ours as O
use Rattle.model.specs.Ours.{whole as as_whole}
use Rattle.model.specs.BeforeFloors.{real_tests, cell_breaches, breaches, ours, our_surplus}
use Rattle.model.specs.declared.Breach.{Breach}
use Rattle.model.specs.Rules.{cell_breach, highest, lowest}
use Rattle.model.specs.Breaches.{failing, reactive_tests, all_windows}
use Rattle.model.proofs.Named.{failing-append}
use Rattle.model.specs.Before as P
use Rattle.ranges.specs.Plain.{SystemPlain, DevicePlain, PlanPlain}
use Rattle.theorems.specs.Plain.{either-none, no-reactive, none-short, q, sum-none}

-- ---- numbers that are 0
pub times_none : (x y : ℤ) → nat_abs y ≤ 0 → nat_abs (x *ℤ y) ≤ 0
times_none x y h = omega (arith, bound-mul x y (nat_abs x) 0 (omega arith) h, mul-zero (nat_abs x))

pub none-zero : (z : ℤ) → nat_abs z ≤ 0 → z ≡ pos 0
none-zero (pos n) h = ap pos (omega arith)
none-zero (negsuc n) h = absurd (omega arith)

less_none : (z : ℤ) → z -ℤ pos 0 ≡ z
less_none z = omega (whole, n- z (pos 0))

-- ---- needs
module _ (q : System) (p : Plan) (hs : SystemPlain q) (hp : PlanPlain p) where
  -- and on one bar
  one-side-none : (s : Bool) (t : ℕ) → nat_abs (B.reactive_total q p s t) ≤ 0
  unfolding B.reactive_total
  one-side-none true t = sum-none _ (up_to (devices q)) (λ i. rw ((no-reactive q p hs hp) t i) (either-none (consuming q i)))
  one-side-none false t = sum-none _ (up_to (devices q)) (λ i. rw ((no-reactive q p hs hp) t i) (either-none (consuming q i)))

  one-none-apart : (t : ℕ) → B.reactive_mismatch_need q p t ≡ 0
  unfolding B.reactive_mismatch_need
  one-none-apart t = omega (arith, bound-sub (B.reactive_total q p true t) (B.reactive_total q p false t) 0 0 (one-side-none true t) (one-side-none false t))

module _ (c : Case) (p : Plan) (hs : SystemPlain c.system) (hp : PlanPlain p) where
  abbrev our : C.Completion ℤ
  our = as_whole (ours c p)

  reserves-free : (t i : ℕ) → nat_abs (C.reactive_reserves_cost c p our t i) ≤ 0
  unfolding C.reactive_reserves_cost C.reactive_reserve_cost
  reserves-free t i = times_none (pos (duration (q c p hs hp) t)) (pos (C.reactive_reserve_cost (C.cell_prices c t i).reactive (setting (q c p hs hp) p t i).reactive))
      (rw (no-reactive (q c p hs hp) p hs hp t i) (nothing-held (C.cell_prices c t i).reactive))
    where
      nothing-held : (a : ReactiveReserves) → a.qru * 0 + a.qrd * 0 ≤ 0
      nothing-held a = omega (arith, mul-zero a.qru, mul-zero a.qrd)

  shortfalls-free : (t z : ℕ) → nat_abs (C.reactive_shortfall_cost c p our t z) ≤ 0
  unfolding C.reactive_shortfall_cost as_whole ours B.ours O.ours
  shortfalls-free t z = times_none (pos (duration (q c p hs hp) t)) (sumℤ term C.reactive_shortfalls) (sum-none term C.reactive_shortfalls (λ k.
      times_none (pos (C.reactive_price (get_or c.prices.zones z no_kinds).reactive k)) (pos (max_zero (C.reactive_need (q c p hs hp) p t z k))) (omega (arith, none-short (q c p hs hp) p hs hp t z k))))
    where
      term : C.ReactiveShortfall → ℤ
      term k = pos (C.reactive_price (get_or c.prices.zones z no_kinds).reactive k) *ℤ our.reactive_shortfall t z k

  mismatch-free : (t : ℕ) → nat_abs (C.reactive_mismatch_cost c p our t 0) ≤ 0
  unfolding C.reactive_mismatch_cost as_whole ours B.ours
  mismatch-free t = times_none (pos (duration (q c p hs hp) t)) (pos c.prices.mismatch *ℤ our.reactive_mismatch t 0)
      (times_none (pos c.prices.mismatch) (pos (B.reactive_mismatch_need (q c p hs hp) p t)) (omega (arith, one-none-apart (q c p hs hp) p hs hp t)))

  -- over the intervals
  day-none : (n : ℕ) (f : ℕ → ℕ → ℤ) → ((t k : ℕ) → nat_abs (f t k) ≤ 0) → nat_abs (sumℤ (λ t. sumℤ (f t) (up_to n)) (up_to (intervals (q c p hs hp)))) ≤ 0
  day-none n f h = sum-none (λ t. sumℤ (f t) (up_to n)) (up_to (intervals (q c p hs hp))) (λ t. sum-none (f t) (up_to n) (λ k. h t k))

  costs-free : B.reactive_costs c p our ≡ pos 0
  unfolding B.reactive_costs
  costs-free = none-zero (A +ℤ B +ℤ E) (bound-add (A +ℤ B) E 0 0
      (bound-add A B 0 0 (day-none (devices (q c p hs hp)) (C.reactive_reserves_cost c p our) reserves-free) (day-none (zones (q c p hs hp)) (C.reactive_shortfall_cost c p our) shortfalls-free))
      (sum-none (λ t. C.reactive_mismatch_cost c p our t 0) (up_to (intervals (q c p hs hp))) mismatch-free))
    where
      A : ℤ
      A = sumℤ (λ t. sumℤ (C.reactive_reserves_cost c p our t) (up_to (devices (q c p hs hp)))) (up_to (intervals (q c p hs hp)))

      B : ℤ
      B = sumℤ (λ t. sumℤ (C.reactive_shortfall_cost c p our t) (up_to (zones (q c p hs hp)))) (up_to (intervals (q c p hs hp)))

      E : ℤ
      E = sumℤ (λ t. C.reactive_mismatch_cost c p our t 0) (up_to (intervals (q c p hs hp)))

  -- our surplus is that of real power
  pub surplus-real : our_surplus c p ≡ B.real_surplus c p our
  unfolding our_surplus B.surplus_of
  surplus-real = ap (λ (z : ℤ). B.real_surplus c p our -ℤ z) costs-free ∙ less_none (B.real_surplus c p our)

-- ---- rules
module _ (q : System) (p : Plan) (hs : SystemPlain q) (hp : PlanPlain p) where
  device-plain : (i : ℕ) → DevicePlain (device q i)
  device-plain i = all-or DevicePlain no_device (record { link = refl; cells = tt }) q.devices hs.devices i

  no-limits : (t i : ℕ) → (cell q t i).reactive ≡ no_reactive_limits
  no-limits t i = all-or (λ c. c.reactive ≡ no_reactive_limits) no_cell refl (device q i).cells (device-plain i).cells t

  -- every rule of reactive power holds, whatever the bracket
  pub rules-hold : (t i : ℕ) → failing (reactive_tests q p t i) ≡ []
  unfolding reactive_tests failing
  rules-hold t i = rw (no-reactive q p hs hp t i, (device-plain i).link, no-limits t i, zero-mul (bracket q p t i)) (go (consuming q i))
    where
      go : (b : Bool) → failing ((21, le_z (highest b no_reactive) (pos 0)) ∷ (22, le_z (pos 0) (lowest b no_reactive)) ∷ (23, true) ∷ (24, true) ∷ (25, true) ∷ (26, true) ∷ []) ≡ []
      go true = refl
      go false = refl

  cells-as-before : (t i : ℕ) → cell_breaches q p t i ≡ P.cell_breaches q p t i
  unfolding cell_breaches P.cell_breaches
  cells-as-before t i =
      let ns = failing (real_tests q p t i) in
      let e : failing (real_tests q p t i ++ reactive_tests q p t i) ≡ ns =
      failing-append (real_tests q p t i) (reactive_tests q p t i) ∙ ap (λ (ms : List ℕ). ns ++ ms) (rules-hold t i) ∙ append-nil ns in
      ap (map (cell_breach t i)) e

  pub breaches-as-before : breaches q p ≡ P.breaches q p
  unfolding breaches P.breaches
  breaches-as-before = ap (λ (bs : List Breach). bs ++ all_windows q p)
      (gather_cong _ _ (up_to (intervals q)) (all (λ t. gather_cong (cell_breaches q p t) (P.cell_breaches q p t) (up_to (devices q)) (all (cells-as-before t) (up_to (devices q)))) (up_to (intervals q))))
