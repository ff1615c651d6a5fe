-- The ledger's entries for one device in one interval are the definition's terms at our completion.
use Rattle.std.specs.Prelude.{◌≡◌, refl, ◌⊎◌, Bool, true, false, [], ℕ, ◌+◌, ◌*◌, ◌<◌, eqb, get_or, ℤ, ◌+ℤ◌, ◌-ℤ◌, ◌*ℤ◌}
use Rattle.std.proofs.Math.Path.{sym, ap, ap₂}
use Rattle.std.proofs.Common.{◌∙◌, inl, inr, arith, mul-zero}
use Rattle.std.proofs.Math.IntN.{pos, neg_ℤ}
use Rattle.numbers.specs.Z.{at, nat, ◌⊕◌, ◌⊝◌, neg, by≡}
use Rattle.numbers.specs.Laws as L
use Rattle.numbers.specs.Sum.{sumℤ, sumℕ}
use Rattle.grains.specs.declared.Ledger.{Ledger}
use Rattle.numbers.specs.Base.{range}
use Rattle.model.specs.Case as M
use Rattle.model.specs.Case.{System, Plan, Case}
use Rattle.model.specs.Forced.{consuming, power, cap, least, setting}
use Rattle.model.specs.Rules.{blocks}
use Rattle.model.specs.Completion.{Completion, by_side, cell_prices, block_price, reserve_cost, block_worth, on_cost, change_cost, reserves_cost}
use Rattle.model.proofs.Named.{rule19-holds}
use Rattle.model.specs.Ours.{ours, whole, best_state}
use Rattle.row_places.specs.declared.Cell.{Cell}
use Rattle.row_places.specs.declared.Device.{Device}
use Rattle.row_places.specs.declared.Setting.{Setting}
use Rattle.records.specs.Views.{less, price_offset, eight_in, eight_prices_in, setting_in, device_prices_in}
use Rattle.records.specs.Viewed as Viewed
use Rattle.theorems.specs.Best.{above-total}
use Rattle.choices.specs.declared.Choice.{Choice}
use Rattle.choices.specs.States.{cost_of}
use Rattle.choices.specs.Cells as Cells
use Rattle.choices.specs.Choices.{cost-is}
use Rattle.money.specs.Bounds.{trade_most, on_most, change_most, reserves_most, cell_most}
use Rattle.money.specs.Entries.{Entered, entered-then, entered-as}
use Rattle.money.specs.Worth.{value_of, trade_of}
use Rattle.money.specs.Costs.{changes_of, eight_cost}
use Rattle.money.specs.Ruled as Ruled
use Rattle.money.specs.Ruled.{Ruled}

-- our completion, as whole numbers
abbrev pub our : Case → Plan → Completion ℤ
our c p = whole (ours c p)

-- what one device brings in one interval
unfoldable pub cell_balance : Case → Plan → ℕ → ℕ → ℤ
cell_balance c p t i = block_worth c p (our c p) t i -ℤ on_cost c p (our c p) t i -ℤ change_cost c p (our c p) t i -ℤ reserves_cost c p (our c p) t i

-- ---- one block

price-term : (o : ℕ) (price : ℤ) (kept x : ℕ) → (x ≡ 0) ⊎ (less o kept ≡ price) → price *ℤ pos x ≡ pos (kept * x) -ℤ pos (o * x)
price-term o price kept x (inl z) = rw (z, mul-zero kept, mul-zero o) (L.mul-zero price)
price-term o price kept x (inr e) = rw (← e) (L.sub-mul (pos kept) (pos o) (pos x))

-- four of them
four-terms : (o : ℕ) (price : ℕ → ℤ) (kept x : ℕ → ℕ) → ((k : ℕ) → k < 4 → price k *ℤ pos (x k) ≡ pos (kept k * x k) -ℤ pos (o * x k))
    → sumℤ (λ k. price k *ℤ pos (x k)) blocks ≡ pos (kept 0 * x 0 + kept 1 * x 1 + kept 2 * x 2 + kept 3 * x 3) -ℤ pos (o * sumℕ x blocks)
unfolding range
four-terms o price kept x h =
    rw (h 0 (omega arith), h 1 (omega arith), h 2 (omega arith), h 3 (omega arith))
    (by≡ ((nat (kept 0 * x 0) ⊝ nat (o * x 0)) ⊕ ((nat (kept 1 * x 1) ⊝ nat (o * x 1)) ⊕ ((nat (kept 2 * x 2) ⊝ nat (o * x 2)) ⊕ ((nat (kept 3 * x 3) ⊝ nat (o * x 3)) ⊕ nat 0))))
    (nat (kept 0 * x 0 + kept 1 * x 1 + kept 2 * x 2 + kept 3 * x 3) ⊝ nat (o * (x 0 + (x 1 + (x 2 + (x 3 + 0)))))) (omega arith))

-- the minutes multiplied in
over-minutes : (b : Bool) (m v f : ℕ) → pos m *ℤ by_side b (pos v -ℤ pos f) ≡ by_side b (pos (m * v) -ℤ pos (m * f))
over-minutes true m v f = L.mul-sub (pos m) (pos v) (pos f)
over-minutes false m v f = L.mul-neg (pos m) (pos v -ℤ pos f) ∙ ap neg_ℤ (L.mul-sub (pos m) (pos v) (pos f))

module _ {d : Device} {cell : Cell} {s : Setting} {p minutes : ℕ} {x : Choice} (w : Ruled d cell s p minutes x) where
  abbrev i : ℕ
  i = w.place.i

  abbrev t : ℕ
  t = w.t

  abbrev c : Case
  c = Ruled.case w

  abbrev q : System
  q = Ruled.q w

  abbrev plan : Plan
  plan = Ruled.plan w

  abbrev our_block : ℕ → ℕ
  our_block = Ruled.our_block w

  total : sumℕ our_block blocks ≡ power q plan t i
  unfolding ours
  total =
      let fits = rule19-holds q plan w.rules t i (Cells.in-intervals w.place) (Cells.in-devices w.place) in
      above-total (block_price c t i) (least q plan t i) (cap q t i) (power q plan t i) (Ruled.floors-below w) fits.floors fits.caps (consuming q i)

  abbrev kept : ℕ → ℕ
  kept k = get_or cell.prices k 0

  worth-is : pos (value_of x.blocks cell.prices) -ℤ pos (price_offset * p) ≡ sumℤ (λ k. block_price c t i k *ℤ pos (our_block k)) blocks
  worth-is =
      ap₂ (λ (v n : ℕ). pos v -ℤ pos (price_offset * n)) value (Cells.power-of w.place ∙ sym total)
      ∙ sym (four-terms price_offset (block_price c t i) kept our_block (λ k h. price-term price_offset (block_price c t i k) (kept k) (our_block k) (Ruled.block-priced w k h)))
    where
      value : value_of x.blocks cell.prices ≡ kept 0 * our_block 0 + kept 1 * our_block 1 + kept 2 * our_block 2 + kept 3 * our_block 3
      value = rw (Ruled.block_at w 0 (omega arith), Ruled.block_at w 1 (omega arith), Ruled.block_at w 2 (omega arith), Ruled.block_at w 3 (omega arith)) refl

  trade-is : trade_of (eqb d.side 1) minutes (value_of x.blocks cell.prices) p ≡ block_worth c plan (our c plan) t i
  unfolding block_worth whole
  trade-is =
      sym (over-minutes (eqb d.side 1) minutes (value_of x.blocks cell.prices) (price_offset * p))
      ∙ ap₂ (λ (m : ℕ) (z : ℤ). pos m *ℤ z) (Ruled.duration-is w) (ap₂ by_side (Cells.side-is w.place) worth-is)

  setting-of : setting q plan t i ≡ setting_in (get_or w.settings t [])
  setting-of = Cells.setting-at w.place t w.place.interval

  on-is : neg_ℤ (pos (minutes * (d.oncost * s.on))) ≡ neg_ℤ (on_cost c plan (our c plan) t i)
  unfolding on_cost device_prices_in
  on-is = ap₂ (λ (m n : ℕ). neg_ℤ (pos (m * n))) (Ruled.duration-is w)
      (ap₂ (λ (a b : ℕ). a * b) (sym (ap (λ (y : M.DevicePrices). y.on_cost) (Cells.prices-of w.place)))
      (ap (λ (y : Setting). y.on) w.setting-is ∙ Cells.on-is w.place t w.place.interval))

  change-is : changes_of d x.started x.stopped x.state ≡ neg_ℤ (change_cost c plan (our c plan) t i)
  unfolding change_cost device_prices_in whole ours
  change-is = ap neg_ℤ (ap₂ (λ (y z : ℤ). y +ℤ z)
      (ap₂ (λ (y z : ℕ). pos y +ℤ pos z)
      (ap₂ (λ (a b : ℕ). a * b) (sym (ap (λ (y : M.DevicePrices). y.start_cost) (Cells.prices-of w.place))) (w.choice.started w.place))
      (ap₂ (λ (a b : ℕ). a * b) (sym (ap (λ (y : M.DevicePrices). y.stop_cost) (Cells.prices-of w.place))) (w.choice.stopped w.place)))
      (ap (cost_of d) (w.choice.state w.place) ∙ cost-is w.place (best_state c plan t i) (Ruled.state-known w)))

  prices-are : eight_prices_in cell.reserves ≡ (cell_prices c t i).reserves
  prices-are =
      ap (λ (y : Cell). eight_prices_in y.reserves) w.place.cell-is
      ∙ sym (ap (λ (y : M.CellPrices). y.reserves)
      (Viewed.cell-prices-are w.place.front w.place.halves w.place.zones w.place.minima w.place.devices w.place.cells i w.place.known t))

  reserves-is : neg_ℤ (pos (minutes * eight_cost cell.reserves s.reserves)) ≡ neg_ℤ (reserves_cost c plan (our c plan) t i)
  unfolding reserves_cost reserve_cost
  reserves-is = ap₂ (λ (m n : ℕ). neg_ℤ (pos (m * n))) (Ruled.duration-is w) (ap₂ reserve_cost prices-are (Ruled.amounts-are w))

-- ---- all four

four-entries : {l a b e r : Ledger} (c : Case) (p : Plan) (t i : ℕ) → Entered l a (neg_ℤ (reserves_cost c p (our c p) t i)) reserves_most → Entered a b (block_worth c p (our c p) t i) trade_most
    → Entered b e (neg_ℤ (on_cost c p (our c p) t i)) on_most → Entered e r (neg_ℤ (change_cost c p (our c p) t i)) change_most → Entered l r (cell_balance c p t i) cell_most
unfolding cell_balance
four-entries c p t i f g h j =
    entered-as (entered-then (entered-then (entered-then f g) h) j) (turn (block_worth c p (our c p) t i) (on_cost c p (our c p) t i)
    (change_cost c p (our c p) t i) (reserves_cost c p (our c p) t i)) (omega arith)
  where
    turn : (w o k v : ℤ) → neg_ℤ v +ℤ w +ℤ neg_ℤ o +ℤ neg_ℤ k ≡ w -ℤ o -ℤ k -ℤ v
    turn w o k v = by≡ (neg (at v) ⊕ at w ⊕ neg (at o) ⊕ neg (at k)) (at w ⊝ at o ⊝ at k ⊝ at v) (omega arith)

-- the code's answer
pub record CellEntered (d : Device) (cell : Cell) (s : Setting) (p minutes : ℕ) (x : Choice) (l r : Ledger) : Type 0 where
  pub is : (w : Ruled d cell s p minutes x) → Entered l r (cell_balance (Ruled.case w) (Ruled.plan w) w.t w.place.i) cell_most

pub cell-entered : (d : Device) (cell : Cell) (s : Setting) (p minutes : ℕ) (x : Choice) {side rate : ℕ} {l a b e r : Ledger} → side ≡ d.side → rate ≡ d.oncost
    → Entered l a (neg_ℤ (pos (minutes * eight_cost cell.reserves s.reserves))) reserves_most
    → Entered a b (trade_of (eqb side 1) minutes (value_of x.blocks cell.prices) p) trade_most
    → Entered b e (neg_ℤ (pos (minutes * (rate * s.on)))) on_most
    → Entered e r (changes_of d x.started x.stopped x.state) change_most → CellEntered d cell s p minutes x l r
cell-entered d cell s p minutes x es er k f g j = record {
  is = λ w. four-entries (Ruled.case w) (Ruled.plan w) w.t w.place.i
      (entered-as k (reserves-is w) (omega arith))
      (entered-as f (ap (λ (n : ℕ). trade_of (eqb n 1) minutes (value_of x.blocks cell.prices) p) es ∙ trade-is w) (omega arith))
      (entered-as g (ap (λ (n : ℕ). neg_ℤ (pos (minutes * (n * s.on)))) er ∙ on-is w) (omega arith))
      (entered-as j (change-is w) (omega arith));
}
