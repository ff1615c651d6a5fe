-- What shortfalls, mismatches and overruns cost.
use Rattle.std.specs.Prelude.{◌≡◌, ℕ, zero, suc, ◌+◌, ◌*◌, ◌≤◌, ◌<◌, get_or, length, ℤ, pos, ◌*ℤ◌}
use Rattle.std.proofs.Math.Path.{sym, ap, ap₂}
use Rattle.std.proofs.Common.{◌∙◌, arith, mul-le-mul, mul_comm}
use mathlib.Core.List.{List, [], map}
use Rattle.std.proofs.Math.IntN.{neg_ℤ}
use Rattle.numbers.specs.Laws.{max_zero}
use Rattle.numbers.specs.Sum.{sumℤ}
use Rattle.energy.specs.declared.Watts.{Watts}
use Rattle.grains.specs.declared.Ledger.{Ledger}
use Rattle.energy.specs.Energy.{watts}
use Rattle.grains.specs.Money.{Ledgered}
use Rattle.model.specs.Case.{System, Plan, Case, Six}
use Rattle.model.specs.Forced as F
use Rattle.model.specs.Completion.{Shortfall, shortfalls, bars, shortfall_need, mismatch_need, overrun_need, shortfall_cost, mismatch_cost}
use Rattle.model.specs.Completion as C
use Rattle.model.specs.Ours.{ours, whole}
use Rattle.ranges.specs.Ranges.{SixRange}
use Rattle.row_places.specs.declared.Front.{Front}
use Rattle.row_places.specs.declared.Zone.{Zone}
use Rattle.row_places.specs.Figures.{zone_of}
use Rattle.records.specs.Views.{most_devices, six_in, system_in, case_in, plan_in}
use Rattle.records.specs.Viewed as Viewed
use Rattle.records.specs.Ranged as Ranged
use Rattle.money.specs.Bounds.{minutes_most, price_most, short_price_most, shortfall_most, mismatch_most, limit_most, short_most, zone_most, mismatch_cost_most, overrun_cost_most}
use Rattle.money.specs.Entries.{Entered, entered-as, spent-as}
use Rattle.theorems.proofs.Sizes.{mismatch-bound}
use Rattle.slack_money.specs.Sizes.{shortfall-bound, overrun-bound}
use Rattle.money.specs.Unbroken.{Unbroken, plan-range, system-range, few-devices, few-intervals}
use Rattle.money.specs.Terms.{our}

-- a decoded case and a plan that breaks no rule, whatever they are
pub record Day : Type 0 where
  pub front : Front
  pub halves : List ℕ
  pub zones : List (List ℕ)
  pub minima : List (List ℕ)
  pub devices : List (List ℕ)
  pub cells : List (List ℕ)
  pub settings : List (List ℕ)
  pub starts : List ℕ
  pub powers : List ℕ
  pub unbroken : Unbroken front halves zones minima devices cells settings starts powers

module _ (w : Day) where
  abbrev pub system : System
  system = system_in w.halves w.zones w.minima w.devices w.cells

  abbrev pub case : Case
  case = case_in w.front w.halves w.zones w.minima w.devices w.cells

  abbrev pub plan : Plan
  plan = plan_in (length w.devices) (length w.halves) w.settings

  pub duration-is : (t : ℕ) → 2 * get_or w.halves t 0 ≡ F.duration system t
  duration-is t = sym (Viewed.duration-is w.halves w.zones w.minima w.devices w.cells t)

  pub minutes-small : (t : ℕ) → 2 * get_or w.halves t 0 ≤ minutes_most
  minutes-small t = omega (arith, Ranged.half-small w.unbroken.ready.case_rows t)

  pub in-intervals : (t : ℕ) → t < length w.halves → t < F.intervals system
  in-intervals t h = omega (arith, Viewed.intervals-are w.halves w.zones w.minima w.devices w.cells)

  pub in-zones : (z : ℕ) → z < length w.zones → z < F.zones system
  in-zones z h = omega (arith, Viewed.zones-are w.halves w.zones w.minima w.devices w.cells)

  pub in-devices : (i : ℕ) → i < length w.devices → i < F.devices system
  in-devices i h = omega (arith, Viewed.devices-are w.halves w.zones w.minima w.devices w.cells)

-- ---- shortfalls

-- a zone in an interval, and our shortfalls there
pub record ZoneOf (zone : Zone) (minutes : ℕ) (x : List Watts) : Type 0 where
  pub day : Day
  pub t : ℕ
  pub z : ℕ
  pub interval : t < length day.halves
  pub known : z < length day.zones
  pub is : zone ≡ zone_of (get_or day.zones z [])
  pub minutes-are : minutes ≡ 2 * get_or day.halves t 0
  pub amounts : x ≡ map (λ k. watts (max_zero (shortfall_need (system day) (plan day) t z k))) shortfalls

-- shortfall k of six
abbrev pub watts_at : List Watts → ℕ → ℕ
watts_at x k = (get_or x k (record { 0 = 0 })).0

-- six shortfalls and their prices
pub record SixSmall (x : List Watts) (prices : List ℕ) : Type 0 where
  pub amount : (k : ℕ) → k < 6 → watts_at x k ≤ shortfall_most
  pub price : (k : ℕ) → k < 6 → get_or prices k 0 ≤ short_price_most

-- each price times its shortfall
abbrev pub six_cost : List ℕ → List Watts → ℕ
six_cost prices x =
    get_or prices 0 0 * watts_at x 0 + get_or prices 1 0 * watts_at x 1 + get_or prices 2 0 * watts_at x 2
    + get_or prices 3 0 * watts_at x 3 + get_or prices 4 0 * watts_at x 4 + get_or prices 5 0 * watts_at x 5

six-get : (P : ℕ → Type 0) (f : Shortfall → ℕ) → ((k : Shortfall) → P (f k)) → (j : ℕ) → j < 6 → P (watts_at (map (λ k. watts (f k)) shortfalls) j)
six-get P f h zero l = h C.rgu
six-get P f h (suc zero) l = h C.rgd
six-get P f h (suc (suc zero)) l = h C.scr
six-get P f h (suc (suc (suc zero))) l = h C.nsc
six-get P f h (suc (suc (suc (suc zero)))) l = h C.rru
six-get P f h (suc (suc (suc (suc (suc zero))))) l = h C.rrd
six-get P f h (suc (suc (suc (suc (suc (suc j)))))) l = absurd (omega arith)

six-price : (v : List ℕ) → SixRange (six_in v) → (j : ℕ) → j < 6 → get_or v j 0 ≤ short_price_most
six-price v h zero l = h.rgu
six-price v h (suc zero) l = h.rgd
six-price v h (suc (suc zero)) l = h.scr
six-price v h (suc (suc (suc zero))) l = h.nsc
six-price v h (suc (suc (suc (suc zero)))) l = h.rru
six-price v h (suc (suc (suc (suc (suc zero))))) l = h.rrd
six-price v h (suc (suc (suc (suc (suc (suc j)))))) l = absurd (omega arith)

-- an amount of money over some minutes: what it is, and its size
abbrev pub Comes : ℕ → ℕ → ℕ → ℕ → Type 0
Comes minutes rate most r = (r ≡ minutes * rate) × (r ≤ most)

-- one of them over the minutes; six added
pub short-small : (minutes price x : ℕ) {r : ℕ} → minutes ≤ minutes_most → price ≤ short_price_most → x ≤ shortfall_most → r ≡ minutes * (price * x) → r ≤ short_most
short-small minutes price x h i j e =
    let a : price * x ≤ short_price_most * shortfall_most = mul-le-mul i j in
    omega (arith, mul-le-mul h a)

pub six-added : (minutes most a b c d e f : ℕ) {g h i j k l r s t u z : ℕ}
    → Comes minutes a most g → Comes minutes b most h → Comes minutes c most i → Comes minutes d most j → Comes minutes e most k → Comes minutes f most l
    → r ≡ g + h → s ≡ r + i → t ≡ s + j → u ≡ t + k → z ≡ u + l → Comes minutes (a + b + c + d + e + f) (6 * most) z
six-added minutes most a b c d e f {g} {h} {i} {j} {k} {l} {r} {s} {t} {u} {z} m n o p q v er es et eu ez =
    (sums ∙ rw (m.0, n.0, o.0, p.0, q.0, v.0) (omega arith), omega (arith, m.1, n.1, o.1, p.1, q.1, v.1))
  where
    sums : z ≡ g + h + i + j + k + l
    sums = omega arith

module _ {zone : Zone} {minutes : ℕ} {x : List Watts} (w : ZoneOf zone minutes x) where
  abbrev q : System
  q = system w.day

  abbrev p : Plan
  p = plan w.day

  abbrev c : Case
  c = case w.day

  abbrev need : Shortfall → ℕ
  need s = max_zero (shortfall_need q p w.t w.z s)

  abbrev prices : List ℕ
  prices = (zone_of (get_or w.day.zones w.z [])).prices

  pub zone-minutes : minutes ≤ minutes_most
  zone-minutes = omega (arith, w.minutes-are, minutes-small w.day w.t)

  pub six-small : SixSmall x zone.prices
  six-small =
      let ready = w.day.unbroken.ready in
      record {
        amount = λ j l. rw w.amounts (six-get (λ n. n ≤ shortfall_most) need (λ s.
            shortfall-bound q p (system-range ready) (plan-range ready) w.day.unbroken.rules (few-devices ready) w.t w.z s
            (in-intervals w.day w.t w.interval) (in-zones w.day w.z w.known)) j l);
        price = λ j l. rw w.is (six-price prices (Ranged.zone-prices-small ready.case_rows w.z w.known).six j l);
      }

  -- each price times its need, as the definition adds them
  abbrev total : Six → ℕ
  total s = s.rgu * need C.rgu + (s.rgd * need C.rgd + (s.scr * need C.scr + (s.nsc * need C.nsc + (s.rru * need C.rru + (s.rrd * need C.rrd + 0)))))

  total-is : six_cost prices (map (λ k. watts (need k)) shortfalls) ≡ total (six_in prices)
  total-is = omega arith

  shortfall-term : neg_ℤ (pos (minutes * six_cost zone.prices x)) ≡ neg_ℤ (shortfall_cost c p (our c p) w.t w.z)
  unfolding shortfall_cost whole ours
  shortfall-term =
      ap (λ (n : ℕ). neg_ℤ (pos n))
      (ap₂ (λ (m n : ℕ). m * n) (w.minutes-are ∙ duration-is w.day w.t) (ap₂ (λ (y : Zone) (v : List Watts). six_cost y.prices v) w.is w.amounts ∙ total-is))
      ∙ ap (λ (s : Six). neg_ℤ (pos (F.duration q w.t * total s)))
      (sym (Viewed.six-prices-are w.day.front w.day.halves w.day.zones w.day.minima w.day.devices w.day.cells w.z w.known))

-- the code's answer
pub record ZoneEntered (zone : Zone) (minutes : ℕ) (x : List Watts) (l r : Ledger) : Type 0 where
  pub is : (w : ZoneOf zone minutes x) → Entered l r (neg_ℤ (shortfall_cost (case w.day) (plan w.day) (our (case w.day) (plan w.day)) w.t w.z)) zone_most

pub zone-entered : (zone : Zone) (minutes : ℕ) (x : List Watts) {l r : Ledger} {g : ℕ}
    → Ledgered r l.credit.0 (l.debit.0 + g) → g ≡ minutes * six_cost zone.prices x → g ≤ zone_most → ZoneEntered zone minutes x l r
zone-entered zone minutes x h e s = record { is = λ w. entered-as (spent-as zone_most h e s) (shortfall-term w) (omega arith) }

-- ---- mismatches

-- what an interval's mismatches cost together
unfoldable pub mismatches_cost : Case → Plan → ℕ → ℤ
mismatches_cost c p t = sumℤ (mismatch_cost c p (our c p) t) bars

-- an interval, its mismatches together and the price
pub record IntervalOf (price minutes m : ℕ) : Type 0 where
  pub day : Day
  pub t : ℕ
  pub interval : t < length day.halves
  pub is : price ≡ day.front.mismatch
  pub minutes-are : minutes ≡ 2 * get_or day.halves t 0
  pub power : m ≡ mismatch_need (system day) (plan day) t 0 + mismatch_need (system day) (plan day) t 1

pub record MismatchEntered (price minutes m : ℕ) (l r : Ledger) : Type 0 where
  pub is : (w : IntervalOf price minutes m) → Entered l r (neg_ℤ (mismatches_cost (case w.day) (plan w.day) w.t)) mismatch_cost_most

module _ {price minutes m : ℕ} (w : IntervalOf price minutes m) where
  pub interval-minutes : minutes ≤ minutes_most
  interval-minutes = omega (arith, w.minutes-are, minutes-small w.day w.t)

  pub mismatch-price : price ≤ price_most
  mismatch-price = omega (arith, w.is, Ranged.mismatch-price-small w.day.unbroken.ready.case_rows)

  pub mismatch-power : m ≤ mismatch_most
  mismatch-power =
      let ready = w.day.unbroken.ready in
      let bound = mismatch-bound (system w.day) (plan w.day) (system-range ready) (plan-range ready) w.day.unbroken.rules most_devices (few-devices ready) w.t in
      let within = in-intervals w.day w.t w.interval in
      omega (
        arith,
        w.power,
        bound 0 within,
        bound 1 within,
      )

  mismatch-term : neg_ℤ (pos (m * minutes * price)) ≡ neg_ℤ (mismatches_cost (case w.day) (plan w.day) w.t)
  unfolding mismatches_cost mismatch_cost whole ours
  mismatch-term = ap (λ (n : ℕ). neg_ℤ (pos n))
      (ap (λ (n : ℕ). n * minutes * price) w.power ∙ shape (need 0) (need 1) minutes price ∙ ap₂ (λ (d c : ℕ). d * (c * need 0) + (d * (c * need 1) + 0)) minuted priced)
    where
      priced : price ≡ (case w.day).prices.mismatch
      priced = w.is ∙ sym (Viewed.mismatch-price-is w.day.front w.day.halves w.day.zones w.day.minima w.day.devices w.day.cells)

      minuted : minutes ≡ F.duration (system w.day) w.t
      minuted = w.minutes-are ∙ duration-is w.day w.t

      need : ℕ → ℕ
      need b = mismatch_need (system w.day) (plan w.day) w.t b

      shape : (m n d c : ℕ) → (m + n) * d * c ≡ d * (c * m) + (d * (c * n) + 0)
      shape m n d c = omega arith

-- the size of an energy and of its price
pub energy-cost : (m minutes price : ℕ) {a g : ℕ} → m ≤ mismatch_most → minutes ≤ minutes_most → price ≤ price_most → a ≡ m * minutes → g ≡ a * price
    → (a ≤ mismatch_most * minutes_most) × (g ≤ mismatch_cost_most)
energy-cost m minutes price {a} {g} h i j e f =
    let n : a ≤ mismatch_most * minutes_most = omega (arith, mul-le-mul h i) in
    (n, omega (arith, mul-le-mul n j))

pub mismatch-entered : (price minutes m : ℕ) {l r : Ledger} {a g : ℕ}
    → Ledgered r l.credit.0 (l.debit.0 + g) → a ≡ m * minutes → g ≡ a * price → g ≤ mismatch_cost_most → MismatchEntered price minutes m l r
mismatch-entered price minutes m h ea eg s = record { is = λ w. entered-as (spent-as mismatch_cost_most h (eg ∙ ap (λ (n : ℕ). n * price) ea) s) (mismatch-term w) (omega arith) }

-- ---- overruns

-- "overrun price·overrun"
unfoldable pub overrun_balance : Case → Plan → ℕ → ℕ → ℤ
overrun_balance c p i w = neg_ℤ (pos c.prices.overrun *ℤ (our c p).overrun i w)

-- an energy window of a device, its overrun and the price
pub record OverrunOf (price e : ℕ) : Type 0 where
  pub day : Day
  pub i : ℕ
  pub w : ℕ
  pub known : i < length day.devices
  pub is : price ≡ day.front.overrun
  pub energy : e ≡ max_zero (overrun_need (system day) (plan day) i w)

pub record OverrunEntered (price e : ℕ) (l r : Ledger) : Type 0 where
  pub is : (o : OverrunOf price e) → Entered l r (overrun_balance (case o.day) (plan o.day) o.i o.w) overrun_cost_most

module _ {price e : ℕ} (o : OverrunOf price e) where
  pub overrun-price : price ≤ price_most
  overrun-price = omega (arith, o.is, Ranged.overrun-price-small o.day.unbroken.ready.case_rows)

  pub overrun-energy : e ≤ limit_most
  overrun-energy =
      let ready = o.day.unbroken.ready in
      omega (
        arith,
        o.energy,
        overrun-bound (system o.day) (plan o.day) (system-range ready) (plan-range ready) o.day.unbroken.rules (few-intervals ready) o.i o.w (in-devices o.day o.i o.known),
      )

  overrun-term : neg_ℤ (pos (e * price)) ≡ overrun_balance (case o.day) (plan o.day) o.i o.w
  unfolding overrun_balance whole ours
  overrun-term = ap (λ (n : ℕ). neg_ℤ (pos n)) (mul_comm e price ∙ ap₂ (λ (a b : ℕ). a * b) priced o.energy)
    where
      priced : price ≡ (case o.day).prices.overrun
      priced = o.is ∙ sym (Viewed.overrun-price-is o.day.front o.day.halves o.day.zones o.day.minima o.day.devices o.day.cells)

pub overrun-cost : (e price : ℕ) {g : ℕ} → e ≤ limit_most → price ≤ price_most → g ≡ e * price → g ≤ overrun_cost_most
overrun-cost e price h i f = omega (arith, mul-le-mul h i)

pub overrun-entered : (price e : ℕ) {l r : Ledger} {g : ℕ} → Ledgered r l.credit.0 (l.debit.0 + g) → g ≡ e * price → g ≤ overrun_cost_most → OverrunEntered price e l r
overrun-entered price e h eg s = record { is = λ o. entered-as (spent-as overrun_cost_most h eg s) (overrun-term o) (omega arith) }
