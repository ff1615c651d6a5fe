-- The day's balance of real and reactive power in the order in which it is added up, and that it is our surplus.
use Rattle.std.specs.Prelude.{◌≡◌, List, ℕ, ◌*◌, ◌≤◌, ℤ, ◌+ℤ◌, ◌-ℤ◌}
use Rattle.std.proofs.Math.Path.{refl, ap, ap₂}
use Rattle.std.proofs.Common.{sym, ◌∙◌, arith}
use Rattle.std.proofs.Math.IntN.{neg_ℤ}
use Rattle.numbers.specs.Z.{at, ◌⊕◌, ◌⊝◌, neg, by≡}
use Rattle.numbers.specs.Sum.{sumℤ, sum-add, sum-neg, sum-cong, all}
use Rattle.numbers.specs.Base.{up_to}
use Rattle.grains.specs.declared.Ledger.{Ledger}
use Rattle.model.specs.Case.{System, Plan, Case}
use Rattle.model.specs.Forced.{intervals, devices, zones}
use Rattle.model.specs.Completion.{shortfall_cost, reactive_reserves_cost, reactive_shortfall_cost, real_surplus, reactive_costs, surplus_of}
use Rattle.model.specs.Judgement.{our_surplus}
use Rattle.model.specs.Editions.{most_devices, most_intervals, most_zones}
use Rattle.money.specs.Bounds.{device_most, kinds_most, mismatch_cost_most, reactive_mismatch_cost_most, interval_most, windows_cost_most, day_most}
use Rattle.money.specs.Entries.{Entered, entered-then, entered-as}
use Rattle.money.specs.Terms.{our, cell_balance}
use Rattle.slack_money.specs.Charges.{mismatches_cost}
use Rattle.slack_money.specs.Day as Real
use Rattle.reactive_money.specs.Charges.{reactive_mismatches_cost}

module _ (c : Case) (p : Plan) where
  abbrev q : System
  q = c.system

  abbrev R : ℕ → ℕ → ℤ
  R = reactive_reserves_cost c p (our c p)

  abbrev S : ℕ → ℕ → ℤ
  S = reactive_shortfall_cost c p (our c p)

  abbrev M : ℕ → ℤ
  M = reactive_mismatches_cost c p

  -- a device in an interval, a zone, the mismatches: of real power, then of reactive
  abbrev pub device_balance : ℕ → ℕ → ℤ
  device_balance t i = cell_balance c p t i +ℤ neg_ℤ (R t i)

  abbrev pub zone_balance : ℕ → ℕ → ℤ
  zone_balance t z = neg_ℤ (shortfall_cost c p (our c p) t z) +ℤ neg_ℤ (S t z)

  abbrev pub mismatches_balance : ℕ → ℤ
  mismatches_balance t = neg_ℤ (mismatches_cost c p t) +ℤ neg_ℤ (M t)

  -- "per interval, per device; then per zone; then mismatch"
  unfoldable pub interval_balance : ℕ → ℤ
  interval_balance t = sumℤ (device_balance t) (up_to (devices q)) +ℤ sumℤ (zone_balance t) (up_to (zones q)) +ℤ mismatches_balance t

  -- what reactive power costs in an interval
  reactive : ℕ → ℤ
  reactive t = sumℤ (R t) (up_to (devices q)) +ℤ sumℤ (S t) (up_to (zones q)) +ℤ M t

  -- a sum of costs taken off another
  less : (f g : ℕ → ℤ) (n : ℕ) → sumℤ (λ k. f k +ℤ neg_ℤ (g k)) (up_to n) ≡ sumℤ f (up_to n) -ℤ sumℤ g (up_to n)
  less f g n =
      sum-add f (λ k. neg_ℤ (g k)) (up_to n) ∙ ap (λ (z : ℤ). sumℤ f (up_to n) +ℤ z) (sum-neg g (up_to n))
      ∙ by≡ (at (sumℤ f (up_to n)) ⊕ neg (at (sumℤ g (up_to n)))) (at (sumℤ f (up_to n)) ⊝ at (sumℤ g (up_to n))) (omega arith)

  -- an interval's real balance less what reactive power costs in it
  interval-is : (t : ℕ) → interval_balance t ≡ Real.interval_balance c p t +ℤ neg_ℤ (reactive t)
  unfolding interval_balance Real.interval_balance reactive
  interval-is t =
      let a = sumℤ (cell_balance c p t) (up_to (devices q)) in
      let b = sumℤ (R t) (up_to (devices q)) in
      let e = sumℤ (λ z. neg_ℤ (shortfall_cost c p (our c p) t z)) (up_to (zones q)) in
      let f = sumℤ (S t) (up_to (zones q)) in
      let g = neg_ℤ (mismatches_cost c p t) in
      ap₂ (λ (y z : ℤ). y +ℤ z +ℤ mismatches_balance t) (less (cell_balance c p t) (R t) (devices q)) (less (λ z. neg_ℤ (shortfall_cost c p (our c p) t z)) (S t) (zones q))
      ∙ by≡ ((at a ⊝ at b) ⊕ (at e ⊝ at f) ⊕ (at g ⊕ neg (at (M t)))) (at a ⊕ at e ⊕ at g ⊕ neg (at b ⊕ at f ⊕ at (M t))) (omega arith)

  costs-are : sumℤ reactive (up_to (intervals q)) ≡ reactive_costs c p (our c p)
  unfolding reactive reactive_costs reactive_mismatches_cost
  costs-are =
      sum-add (λ t. sumℤ (R t) (up_to (devices q)) +ℤ sumℤ (S t) (up_to (zones q))) M (up_to (intervals q))
      ∙ ap (λ (z : ℤ). z +ℤ sumℤ M (up_to (intervals q))) (sum-add (λ t. sumℤ (R t) (up_to (devices q))) (λ t. sumℤ (S t) (up_to (zones q))) (up_to (intervals q)))

  -- the surplus sums each term over the day by itself
  pub day-is : sumℤ interval_balance (up_to (intervals q)) +ℤ sumℤ (Real.windows_balance c p) (up_to (devices q)) ≡ our_surplus c p
  unfolding Real.day_balance our_surplus surplus_of
  day-is =
      let I = up_to (intervals q) in
      let r = sumℤ (Real.interval_balance c p) I in
      let w = sumℤ (Real.windows_balance c p) (up_to (devices q)) in
      let k = sumℤ reactive I in
      ap (λ (z : ℤ). z +ℤ w) (sum-cong interval_balance (λ t. Real.interval_balance c p t +ℤ neg_ℤ (reactive t)) I (all interval-is I) ∙ less (Real.interval_balance c p) reactive (intervals q))
      ∙ by≡ ((at r ⊝ at k) ⊕ at w) ((at r ⊕ at w) ⊝ at k) (omega arith)
      ∙ ap₂ (λ (y z : ℤ). y -ℤ z) (Real.day-is c p) costs-are

  -- ---- what the entries of the day come to

  pub interval-entered : (t : ℕ) {l a b d r : Ledger} → devices q ≤ most_devices → zones q ≤ most_zones
      → Entered l a (sumℤ (device_balance t) (up_to (devices q))) (devices q * device_most)
      → Entered a b (sumℤ (zone_balance t) (up_to (zones q))) (zones q * kinds_most)
      → Entered b d (neg_ℤ (mismatches_cost c p t)) mismatch_cost_most
      → Entered d r (neg_ℤ (M t)) reactive_mismatch_cost_most
      → Entered l r (interval_balance t) interval_most
  unfolding interval_balance
  interval-entered t m n f g h k = entered-as (entered-then (entered-then f g) (entered-then h k)) refl (omega arith)

  pub day-entered : {l a r : Ledger} → intervals q ≤ most_intervals → devices q ≤ most_devices → Entered l a (sumℤ interval_balance (up_to (intervals q))) (intervals q * interval_most)
      → Entered a r (sumℤ (Real.windows_balance c p) (up_to (devices q))) (devices q * windows_cost_most) → Entered l r (our_surplus c p) day_most
  day-entered m n f g = entered-as (entered-then f g) day-is (omega arith)
