-- The day's balance of real power in the order in which it is added up, and that it is our surplus' part.
use Rattle.std.specs.Prelude.{◌≡◌, List, ℕ, ◌*◌, ◌≤◌, length, ℤ, ◌+ℤ◌, ◌-ℤ◌, ◌*ℤ◌}
use Rattle.std.proofs.Math.Path.{refl, ap, ap₂}
use Rattle.std.proofs.Common.{◌∙◌, arith}
use Rattle.std.proofs.Math.IntN.{pos, neg_ℤ}
use Rattle.numbers.specs.Sum.{sumℤ, sum-add, sum-neg, sum-scale, sum-cong, sums-sub, sums-neg, all}
use Rattle.grains.specs.declared.Ledger.{Ledger}
use Rattle.numbers.specs.Base.{up_to}
use Rattle.model.specs.Case.{System, Plan, Case}
use Rattle.model.specs.Forced.{intervals, devices, zones, device}
use Rattle.model.specs.Completion.{block_worth, on_cost, change_cost, reserves_cost, shortfall_cost, overruns, real_surplus}
use Rattle.model.specs.Editions.{most_windows}
use Rattle.money.specs.Bounds.{overrun_cost_most, windows_cost_most}
use Rattle.money.specs.Entries.{Entered, entered-as}
use Rattle.money.specs.Terms.{our, cell_balance}
use Rattle.slack_money.specs.Charges.{mismatches_cost, overrun_balance}

-- ---- the day

module _ (c : Case) (p : Plan) where
  abbrev q : System
  q = c.system

  -- "per interval, per device; then per zone; then mismatch", of both bars
  unfoldable pub interval_balance : ℕ → ℤ
  interval_balance t =
      sumℤ (cell_balance c p t) (up_to (devices q))
      +ℤ sumℤ (λ z. neg_ℤ (shortfall_cost c p (our c p) t z)) (up_to (zones q))
      +ℤ neg_ℤ (mismatches_cost c p t)

  -- "Then each energy window's overrun"
  unfoldable pub windows_balance : ℕ → ℤ
  windows_balance i = sumℤ (overrun_balance c p i) (up_to (length (device q i).energy_windows))

  unfoldable pub day_balance : ℤ
  day_balance = sumℤ interval_balance (up_to (intervals q)) +ℤ sumℤ windows_balance (up_to (devices q))

  over : (ℕ → ℕ → ℤ) → ℕ → ℤ
  over f n = sumℤ (λ t. sumℤ (f t) (up_to n)) (up_to (intervals q))

  abbrev I : List ℕ
  I = up_to (intervals q)

  abbrev D : List ℕ
  D = up_to (devices q)

  A : ℕ → ℕ → ℤ
  A = block_worth c p (our c p)

  B : ℕ → ℕ → ℤ
  B = on_cost c p (our c p)

  E : ℕ → ℕ → ℤ
  E = change_cost c p (our c p)

  G : ℕ → ℕ → ℤ
  G = reserves_cost c p (our c p)

  S : ℕ → ℕ → ℤ
  S = shortfall_cost c p (our c p)

  M : ℕ → ℤ
  M = mismatches_cost c p

  cells_are : over (cell_balance c p) (devices q) ≡ over A (devices q) -ℤ over B (devices q) -ℤ over E (devices q) -ℤ over G (devices q)
  unfolding cell_balance over A B E G
  cells_are =
      sums-sub I D (λ t i. A t i -ℤ B t i -ℤ E t i) G
      ∙ ap (λ (z : ℤ). z -ℤ over G (devices q)) (sums-sub I D (λ t i. A t i -ℤ B t i) E ∙ ap (λ (z : ℤ). z -ℤ over E (devices q)) (sums-sub I D A B))

  intervals-are : sumℤ interval_balance (up_to (intervals q)) ≡ over (cell_balance c p) (devices q) +ℤ neg_ℤ (over S (zones q)) +ℤ neg_ℤ (sumℤ M (up_to (intervals q)))
  unfolding interval_balance S M over
  intervals-are =
      sum-add (λ t. sumℤ (cell_balance c p t) (up_to (devices q)) +ℤ sumℤ (λ z. neg_ℤ (S t z)) (up_to (zones q))) (λ t. neg_ℤ (M t)) (up_to (intervals q))
      ∙ ap₂ (λ (y z : ℤ). y +ℤ z)
      (sum-add (λ t. sumℤ (cell_balance c p t) (up_to (devices q))) (λ t. sumℤ (λ z. neg_ℤ (S t z)) (up_to (zones q))) (up_to (intervals q))
      ∙ ap (λ (z : ℤ). over (cell_balance c p) (devices q) +ℤ z) (sums-neg I (up_to (zones q)) S))
      (sum-neg M (up_to (intervals q)))

  windows-are : sumℤ windows_balance (up_to (devices q)) ≡ neg_ℤ (pos c.prices.overrun *ℤ sumℤ (overruns c p (our c p)) (up_to (devices q)))
  unfolding windows_balance overrun_balance overruns
  windows-are =
      sum-cong windows_balance (λ i. neg_ℤ (pos c.prices.overrun *ℤ overruns c p (our c p) i)) (up_to (devices q)) (all each (up_to (devices q)))
      ∙ sum-neg (λ i. pos c.prices.overrun *ℤ overruns c p (our c p) i) (up_to (devices q))
      ∙ ap neg_ℤ (sum-scale (pos c.prices.overrun) (overruns c p (our c p)) (up_to (devices q)))
    where
      each : (i : ℕ) → windows_balance i ≡ neg_ℤ (pos c.prices.overrun *ℤ overruns c p (our c p) i)
      each i =
          sum-neg (λ w. pos c.prices.overrun *ℤ (our c p).overrun i w) (up_to (length (device q i).energy_windows))
          ∙ ap neg_ℤ (sum-scale (pos c.prices.overrun) ((our c p).overrun i) (up_to (length (device q i).energy_windows)))

  -- the surplus sums each term over the day by itself
  pub day-is : day_balance ≡ real_surplus c p (our c p)
  unfolding day_balance real_surplus mismatches_cost over A B E G S M
  day-is = ap₂ (λ (y z : ℤ). y +ℤ z) (intervals-are ∙ ap (λ (z : ℤ). z +ℤ neg_ℤ (over S (zones q)) +ℤ neg_ℤ (sumℤ M (up_to (intervals q)))) cells_are) windows-are

  -- ---- what the entries of a device's windows come to

  pub windows-entered : (i : ℕ) {l r : Ledger} → length (device q i).energy_windows ≤ most_windows
      → Entered l r (sumℤ (overrun_balance c p i) (up_to (length (device q i).energy_windows))) (length (device q i).energy_windows * overrun_cost_most) → Entered l r (windows_balance i) windows_cost_most
  unfolding windows_balance
  windows-entered i n h = entered-as h refl (omega arith)
