-- What reactive reserves, reactive shortfalls and reactive mismatches cost.
use Rattle.std.specs.Prelude.{◌≡◌, refl, List, [], ℕ, ◌+◌, ◌*◌, ◌≤◌, ◌<◌, get_or, length, ℤ, pos}
use Rattle.std.proofs.Common.{sym, ◌∙◌, arith, mul-le-mul}
use Rattle.std.proofs.Math.Path.{ap, ap₂}
use Rattle.std.proofs.Math.IntN.{neg_ℤ}
use Rattle.numbers.specs.Laws.{max_zero}
use Rattle.numbers.specs.Sum.{sumℤ}
use Rattle.numbers.specs.Parts.{part_at, place_inside}
use Rattle.grains.specs.declared.Ledger.{Ledger}
use Rattle.grains.specs.Money.{Ledgered}
use Rattle.model.specs.Case as M
use Rattle.model.specs.Case.{System, Plan, Case}
use Rattle.model.specs.Forced as F
use Rattle.model.specs.Completion.{ReactiveShortfall, reactive_need, reactive_mismatch_need, reactive_reserve_cost, reactive_reserves_cost, reactive_shortfall_cost, reactive_mismatch_cost}
use Rattle.model.specs.Completion as C
use Rattle.model.specs.Ours.{ours, whole}
use Rattle.theorems.proofs.Sizes.{reactive-shortfall-bound, reactive-mismatch-bound}
use Rattle.ranges.specs.Ranges.{CellPriceRange}
use Rattle.row_places.specs.declared.Zone.{Zone}
use Rattle.row_places.specs.declared.Reactive.{Reactive}
use Rattle.row_places.specs.declared.ReactiveCell.{ReactiveCell}
use Rattle.row_places.specs.Figures.{zone_of, reactive_at, reactive_cell_at}
use Rattle.records.specs.Views.{most_devices, cell_prices_in, setting_in, kinds_in, reactive_in, reactive_prices_in}
use Rattle.records.specs.Viewed as Viewed
use Rattle.records.specs.Ranged as Ranged
use Rattle.money.specs.Bounds.{minutes_most, power_most, price_most, short_price_most, reactive_shortfall_most, reactive_reserves_most, reactive_zone_most, reactive_mismatch_most, reactive_mismatch_cost_most}
use Rattle.money.specs.Entries.{Entered, entered-none, entered-as, spent-as}
use Rattle.money.specs.Unbroken.{plan-range, system-range, few-devices}
use Rattle.money.specs.Terms.{our}
use Rattle.slack_money.specs.Charges.{Day, system, case, plan, duration-is, minutes-small, in-intervals, in-zones}

-- ---- reserves

-- a device in an interval, its figures at place k
pub record HeldOf (cells settings : List (List ℕ)) (k minutes : ℕ) : Type 0 where
  pub day : Day
  pub t : ℕ
  pub i : ℕ
  pub interval : t < length day.halves
  pub known : i < length day.devices
  pub cells_are : cells ≡ day.cells
  pub settings-are : settings ≡ day.settings
  pub at : k ≡ i * length day.halves + t
  pub minutes-are : minutes ≡ 2 * get_or day.halves t 0

-- each of the two times its price
abbrev pub two_cost : ReactiveCell → Reactive → ℕ
two_cost b a = b.qru.0 * a.qru.0 + b.qrd.0 * a.qrd.0

pub record AmountsBelow (a : Reactive) : Type 0 where
  pub qru : a.qru.0 ≤ power_most
  pub qrd : a.qrd.0 ≤ power_most

pub record PricesBelow (b : ReactiveCell) : Type 0 where
  pub qru : b.qru.0 ≤ price_most
  pub qrd : b.qrd.0 ≤ price_most

module _ {cells settings : List (List ℕ)} {k minutes : ℕ} (w : HeldOf cells settings k minutes) where
  abbrev m : ℕ
  m = length w.day.halves

  abbrev n : ℕ
  n = length w.day.devices

  place : w.i * m + w.t < n * m
  place = place_inside m w.i n w.t w.known w.interval

  pub held-minutes : minutes ≤ minutes_most
  held-minutes = omega (arith, w.minutes-are, minutes-small w.day w.t)

  pub in-settings : k < length settings
  in-settings = rw w.settings-are (omega (arith, place, w.at, w.day.unbroken.ready.plan-rows.full))

  pub in_cells : k < length cells
  in_cells = rw w.cells_are (omega (arith, place, w.at, w.day.unbroken.ready.case_rows.cells-full))

  pub amounts-small : AmountsBelow (reactive_at settings k)
  amounts-small = rw w.settings-are (let r = (w.day.unbroken.ready.plan-rows.range k (rw w.settings-are at in-settings)).reactive in record { qru = r.qru; qrd = r.qrd })

  pub prices-small : PricesBelow (reactive_cell_at cells k)
  prices-small =
      let r : CellPriceRange (cell_prices_in (get_or w.day.cells (w.i * m + w.t) [])) = rw (part_at [] m w.i w.day.cells w.t w.interval) at
      (Ranged.cell-price-range w.day.unbroken.ready.case_rows w.i w.known w.t w.interval) in
      rw (w.cells_are, w.at) (record { qru = r.reactive.qru; qrd = r.reactive.qrd })

  prices-are : reactive_prices_in (reactive_cell_at cells k) ≡ (C.cell_prices (case w.day) w.t w.i).reactive
  prices-are =
      let d = w.day in
      rw (w.cells_are, w.at) (sym (
      ap (λ (y : M.CellPrices). y.reactive) (Viewed.cell-prices-are d.front d.halves d.zones d.minima d.devices d.cells w.i w.known w.t)
      ∙ ap (λ (r : List ℕ). (cell_prices_in r).reactive) (part_at [] m w.i d.cells w.t w.interval)
      ))

  amounts-are : reactive_in (reactive_at settings k) ≡ (F.setting (system w.day) (plan w.day) w.t w.i).reactive
  amounts-are =
      let d = w.day in
      rw (w.settings-are, w.at) (sym (
      ap (λ (y : M.Setting). y.reactive) (Viewed.setting-is n m d.settings (system d) w.t w.i w.interval w.known)
      ∙ ap (λ (r : List ℕ). (setting_in r).reactive) (part_at [] m w.i d.settings w.t w.interval)
      ))

  held-term : neg_ℤ (pos (minutes * two_cost (reactive_cell_at cells k) (reactive_at settings k)))
      ≡ neg_ℤ (reactive_reserves_cost (case w.day) (plan w.day) (our (case w.day) (plan w.day)) w.t w.i)
  unfolding reactive_reserves_cost reactive_reserve_cost
  held-term = ap₂ (λ (m n : ℕ). neg_ℤ (pos (m * n))) (w.minutes-are ∙ duration-is w.day w.t) (ap₂ reactive_reserve_cost prices-are amounts-are)

-- the code's answer
pub record HeldEntered (cells settings : List (List ℕ)) (k minutes : ℕ) (l r : Ledger) : Type 0 where
  pub is : (w : HeldOf cells settings k minutes)
      → Entered l r (neg_ℤ (reactive_reserves_cost (case w.day) (plan w.day) (our (case w.day) (plan w.day)) w.t w.i)) reactive_reserves_most

-- nothing held costs nothing
none-cost : (minutes : ℕ) (b : ReactiveCell) (a : Reactive) → a.qru.0 ≡ 0 → a.qrd.0 ≡ 0 → minutes * two_cost b a ≡ 0
none-cost minutes b a e f = rw (e, f) (omega arith)

pub none-entered : (cells settings : List (List ℕ)) (k minutes : ℕ) {x : Reactive} {h : ℕ} (l : Ledger) → x ≡ reactive_at settings k → h ≡ x.qru.0 + x.qrd.0 → h ≡ 0
    → HeldEntered cells settings k minutes l l
none-entered cells settings k minutes {x} {h} l e f g =
    let a : (reactive_at settings k).qru.0 ≡ 0 = rw e at (let y : x.qru.0 ≡ 0 = omega arith in y) in
    let b : (reactive_at settings k).qrd.0 ≡ 0 = rw e at (let y : x.qrd.0 ≡ 0 = omega arith in y) in
    record {
      is = λ w. entered-as (entered-none l) (sym (ap (λ (n : ℕ). neg_ℤ (pos n)) (none-cost minutes (reactive_cell_at cells k) (reactive_at settings k) a b)) ∙ held-term w) (omega arith);
    }

-- both at their prices, as the code reads them
pub two-rate : {cells settings : List (List ℕ)} {k minutes : ℕ} → HeldOf cells settings k minutes → {b : ReactiveCell} {a : Reactive} {x y z : ℕ}
    → b ≡ reactive_cell_at cells k → a ≡ reactive_at settings k → x ≡ b.qru.0 * a.qru.0 → y ≡ b.qrd.0 * a.qrd.0 → z ≡ x + y
    → (z ≡ two_cost (reactive_cell_at cells k) (reactive_at settings k)) × (z ≤ 2 * (price_most * power_most))
two-rate w eb ea ex ey ez =
    let h = amounts-small w in
    let p = prices-small w in
    (rw (ez, ex, ey, eb, ea) refl, rw (ez, ex, ey, eb, ea) (omega (arith, mul-le-mul p.qru h.qru, mul-le-mul p.qrd h.qrd)))

pub held-entered : (cells settings : List (List ℕ)) (k minutes : ℕ) {z g : ℕ} {l r : Ledger}
    → Ledgered r l.credit.0 (l.debit.0 + g) → g ≡ minutes * z → minutes ≤ minutes_most → (z ≡ two_cost (reactive_cell_at cells k) (reactive_at settings k)) × (z ≤ 2 * (price_most * power_most))
    → HeldEntered cells settings k minutes l r
held-entered cells settings k minutes h e m z = record {
  is = λ w. entered-as (spent-as reactive_reserves_most h (e ∙ ap (λ (n : ℕ). minutes * n) z.0) (omega (arith, e, mul-le-mul m z.1))) (held-term w) (omega arith);
}

-- ---- shortfalls

-- one of the two
abbrev pub short_most : ℕ
short_most = minutes_most * (short_price_most * reactive_shortfall_most)

pub short-small : (minutes price x : ℕ) {r : ℕ} → minutes ≤ minutes_most → price ≤ short_price_most → x ≤ reactive_shortfall_most → r ≡ minutes * (price * x) → r ≤ short_most
short-small minutes price x h i j e =
    let a : price * x ≤ short_price_most * reactive_shortfall_most = mul-le-mul i j in
    omega (arith, mul-le-mul h a)

-- a zone in an interval, and our reactive shortfalls there
pub record ReactiveZoneOf (zone : Zone) (minutes qru qrd : ℕ) : Type 0 where
  pub day : Day
  pub t : ℕ
  pub z : ℕ
  pub interval : t < length day.halves
  pub known : z < length day.zones
  pub is : zone ≡ zone_of (get_or day.zones z [])
  pub minutes-are : minutes ≡ 2 * get_or day.halves t 0
  pub up : qru ≡ max_zero (reactive_need (system day) (plan day) t z C.qru)
  pub down : qrd ≡ max_zero (reactive_need (system day) (plan day) t z C.qrd)

abbrev pub short_cost : Zone → ℕ → ℕ → ℕ
short_cost zone qru qrd = zone.qru.0 * qru + zone.qrd.0 * qrd

module _ {zone : Zone} {minutes qru qrd : ℕ} (w : ReactiveZoneOf zone minutes qru qrd) where
  abbrev need : ReactiveShortfall → ℕ
  need k = max_zero (reactive_need (system w.day) (plan w.day) w.t w.z k)

  pub zone-minutes : minutes ≤ minutes_most
  zone-minutes = omega (arith, w.minutes-are, minutes-small w.day w.t)

  need-small : (k : ReactiveShortfall) → need k ≤ reactive_shortfall_most
  need-small k =
      let ready = w.day.unbroken.ready in
      reactive-shortfall-bound (system w.day) (plan w.day) (system-range ready) (plan-range ready) w.day.unbroken.rules w.t w.z k (in-zones w.day w.z w.known)

  pub up_small : (qru ≤ reactive_shortfall_most) × (zone.qru.0 ≤ short_price_most)
  up_small = (omega (arith, w.up, need-small C.qru), rw w.is (Ranged.zone-prices-small w.day.unbroken.ready.case_rows w.z w.known).reactive.qru)

  pub down-small : (qrd ≤ reactive_shortfall_most) × (zone.qrd.0 ≤ short_price_most)
  down-small = (omega (arith, w.down, need-small C.qrd), rw w.is (Ranged.zone-prices-small w.day.unbroken.ready.case_rows w.z w.known).reactive.qrd)

  -- each price times its need, as the definition adds them
  abbrev total : M.ReactiveReserves → ℕ
  total s = s.qru * need C.qru + (s.qrd * need C.qrd + 0)

  shortfall-term : neg_ℤ (pos (minutes * short_cost zone qru qrd))
      ≡ neg_ℤ (reactive_shortfall_cost (case w.day) (plan w.day) (our (case w.day) (plan w.day)) w.t w.z)
  unfolding reactive_shortfall_cost whole ours
  shortfall-term =
      let d = w.day in
      let here = (kinds_in (zone_of (get_or d.zones w.z []))).reactive in
      let same : short_cost zone qru qrd ≡ total here = rw (w.is, w.up, w.down) (omega arith) in
      ap (λ (n : ℕ). neg_ℤ (pos n)) (ap₂ (λ (m n : ℕ). m * n) (w.minutes-are ∙ duration-is d w.t) same)
      ∙ ap (λ (s : M.Kinds). neg_ℤ (pos (F.duration (system d) w.t * total s.reactive)))
      (sym (Viewed.zone-prices-are d.front d.halves d.zones d.minima d.devices d.cells w.z w.known))

pub record ReactiveZoneEntered (zone : Zone) (minutes qru qrd : ℕ) (l r : Ledger) : Type 0 where
  pub is : (w : ReactiveZoneOf zone minutes qru qrd)
      → Entered l r (neg_ℤ (reactive_shortfall_cost (case w.day) (plan w.day) (our (case w.day) (plan w.day)) w.t w.z)) reactive_zone_most

pub zone-entered : (zone : Zone) (minutes qru qrd : ℕ) {l r : Ledger} {a b g : ℕ}
    → Ledgered r l.credit.0 (l.debit.0 + g) → (a ≡ minutes * (zone.qru.0 * qru)) × (a ≤ short_most) → (b ≡ minutes * (zone.qrd.0 * qrd)) × (b ≤ short_most) → g ≡ a + b
    → ReactiveZoneEntered zone minutes qru qrd l r
zone-entered zone minutes qru qrd {a = a} {b = b} {g = g} h e f s =
    let n : g ≡ minutes * short_cost zone qru qrd = s ∙ rw (e.0, f.0) (omega arith) in
    record { is = λ w. entered-as (spent-as reactive_zone_most h n (omega (arith, s, e.1, f.1))) (shortfall-term w) (omega arith) }

-- ---- mismatches

-- what an interval's reactive mismatches cost together
unfoldable pub reactive_mismatches_cost : Case → Plan → ℕ → ℤ
reactive_mismatches_cost c p t = sumℤ (reactive_mismatch_cost c p (our c p) t) C.bars

-- an interval, its reactive mismatches together and the price
pub record ReactiveIntervalOf (price minutes m : ℕ) : Type 0 where
  pub day : Day
  pub t : ℕ
  pub interval : t < length day.halves
  pub is : price ≡ day.front.mismatch
  pub minutes-are : minutes ≡ 2 * get_or day.halves t 0
  pub power : m ≡ reactive_mismatch_need (system day) (plan day) t 0 + reactive_mismatch_need (system day) (plan day) t 1

pub record ReactiveMismatchEntered (price minutes m : ℕ) (l r : Ledger) : Type 0 where
  pub is : (w : ReactiveIntervalOf price minutes m)
      → Entered l r (neg_ℤ (reactive_mismatches_cost (case w.day) (plan w.day) w.t)) reactive_mismatch_cost_most

module _ {price minutes m : ℕ} (w : ReactiveIntervalOf price minutes m) where
  pub interval-minutes : minutes ≤ minutes_most
  interval-minutes = omega (arith, w.minutes-are, minutes-small w.day w.t)

  mismatch-price : price ≤ price_most
  mismatch-price = omega (arith, w.is, Ranged.mismatch-price-small w.day.unbroken.ready.case_rows)

  pub mismatch-power : m ≤ reactive_mismatch_most
  mismatch-power =
      let ready = w.day.unbroken.ready in
      let bound = reactive-mismatch-bound (system w.day) (plan w.day) (system-range ready) (plan-range ready) w.day.unbroken.rules most_devices (few-devices ready) w.t in
      let within = in-intervals w.day w.t w.interval in
      omega (arith, w.power, bound 0 within, bound 1 within)

  -- each minute, and over the interval
  pub rate-small : price * m ≤ price_most * reactive_mismatch_most
  rate-small = mul-le-mul mismatch-price mismatch-power

  pub cost-small : minutes * (price * m) ≤ reactive_mismatch_cost_most
  cost-small = mul-le-mul interval-minutes rate-small

  mismatch-term : neg_ℤ (pos (minutes * (price * m))) ≡ neg_ℤ (reactive_mismatches_cost (case w.day) (plan w.day) w.t)
  unfolding reactive_mismatches_cost reactive_mismatch_cost whole ours
  mismatch-term = ap (λ (n : ℕ). neg_ℤ (pos n))
      (ap (λ (n : ℕ). minutes * (price * n)) w.power ∙ shape (need 0) (need 1) minutes price ∙ ap₂ (λ (d c : ℕ). d * (c * need 0) + (d * (c * need 1) + 0)) minuted priced)
    where
      minuted : minutes ≡ F.duration (system w.day) w.t
      minuted = w.minutes-are ∙ duration-is w.day w.t

      need : ℕ → ℕ
      need b = reactive_mismatch_need (system w.day) (plan w.day) w.t b

      shape : (m n d c : ℕ) → d * (c * (m + n)) ≡ d * (c * m) + (d * (c * n) + 0)
      shape m n d c = omega arith

      priced : price ≡ (case w.day).prices.mismatch
      priced = w.is ∙ sym (Viewed.mismatch-price-is w.day.front w.day.halves w.day.zones w.day.minima w.day.devices w.day.cells)

pub mismatch-entered : (price minutes m : ℕ) {l r : Ledger} {a g : ℕ}
    → Ledgered r l.credit.0 (l.debit.0 + g) → a ≡ price * m → g ≡ minutes * a → ReactiveMismatchEntered price minutes m l r
mismatch-entered price minutes m {a = a} {g = g} h ea eg =
    let n : g ≡ minutes * (price * m) = eg ∙ ap (λ (k : ℕ). minutes * k) ea in
    record { is = λ w. entered-as (spent-as reactive_mismatch_cost_most h n (omega (arith, n, cost-small w))) (mismatch-term w) (omega arith) }
