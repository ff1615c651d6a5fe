-- The powers of the two sides of each bar in one interval, and how far they are apart.
use Rattle.std.specs.Prelude.{◌≡◌, Bool, true, false, ◌&&◌, List, eqb, get_or, pos, neg_ℤ, nat_abs, ◌+ℤ◌, ◌-ℤ◌}
use Rattle.std.proofs.Math.Path.{refl, sym, ap, ap₂}
use Rattle.std.proofs.Common.{◌∙◌, mul-le-mul, add-one, eq-eqb, ne_eqb}
use Rattle.std.proofs.Math.Bool.{not}
use Prim.Native.Nat.{ℕ, zero, suc, ◌+◌, ◌-◌, ◌*◌, ◌≤◌, ◌<◌}
use native.Mathlib.Omega.{arith}
use Rattle.std.proofs.Math.ListN.{length}
use Rattle.numbers.specs.Z.{whole, n+, n-, n~}
use Rattle.numbers.specs.Sum.{sumℕ, gate}
use Rattle.numbers.specs.Bounds.{apart-is}
use Rattle.bits.specs.Pick.{pick}
use Rattle.numbers.specs.Base.{range, up_to}
use Rattle.model.specs.Case.{System, Plan}
use Rattle.model.specs.Forced.{devices as count, device, consuming, on_bar, power}
use Rattle.model.specs.Completion as C
use Rattle.ranges.specs.Kept.{less}
use Rattle.kilowatts.specs.declared.Kw.{Kw}
use Rattle.kilowatts.specs.Power.{kw}
use Rattle.kilovars.specs.Reactive.{kvar_offset}
use Rattle.row_places.specs.declared.Front.{Front}
use Rattle.row_places.specs.Figures.{side_at, bar_at, flow_at}
use Rattle.numbers.specs.Parts.{place_inside}
use Rattle.numbers.specs.Ranges.{sum-next, sum-skip}
use Rattle.records.specs.Views.{system_in, plan_in, most_devices, most_intervals, most_power, CaseRows, Ready}
use Rattle.records.specs.Ranged.{device-range}
use Rattle.records.specs.Viewed as W
use Rattle.mismatches.specs.declared.Sides.{Sides}
use Rattle.mismatches.specs.declared.BarSides.{BarSides}
use Rattle.mismatches.specs.declared.BarMismatches.{BarMismatches}

-- interval t of m, and the powers of n devices in m intervals
pub record Powered (n m t : ℕ) (powers : List ℕ) : Type 0 where
  pub few-devices : n ≤ most_devices
  pub few-intervals : m ≤ most_intervals
  pub interval : t < m
  pub full : length powers ≡ n * m
  pub small : (k : ℕ) → k < length powers → get_or powers k 0 ≤ most_power

pub powered : {front : Front} {halves : List ℕ} {zones minima devices cells settings : List (List ℕ)} {starts powers : List ℕ}
    → Ready front halves zones minima devices cells settings starts powers → (t : ℕ) → t < length halves → Powered (length devices) (length halves) t powers
powered r t h = record {
  few-devices = r.case_rows.few-devices;
  few-intervals = r.case_rows.few-intervals;
  interval = h;
  full = r.forced-rows.powers-full;
  small = r.forced-rows.small;
}

-- the flow of interval t, as it is kept
pub record Linked (t : ℕ) (settings : List (List ℕ)) : Type 0 where
  pub stored : t < length settings
  pub small : flow_at settings t ≤ 2 * kvar_offset

-- a case has a device, so the flow has a row
pub linked : {front : Front} {halves : List ℕ} {zones minima devices cells settings : List (List ℕ)} {starts powers : List ℕ}
    → Ready front halves zones minima devices cells settings starts powers → (t : ℕ) → t < length halves → Linked t settings
linked {halves = halves} {zones = zones} {minima = minima} {devices = devices} {cells = cells} r t h =
    let some : 1 ≤ length devices = omega (arith, r.case_rows.range.system.some_device, W.devices-are halves zones minima devices cells) in
    record { stored = omega (arith, place_inside (length halves) 0 (length devices) t some h, r.plan-rows.full); small = r.plan-rows.flows t h }

-- the place of device i in interval t is within the table, and the next place is small
pub record Place (m k : ℕ) (powers : List ℕ) : Type 0 where
  pub inside : k < length powers
  pub next : k + m ≤ 6240
  pub power : get_or powers k 0 ≤ most_power

pub place : {n m t : ℕ} {powers : List ℕ} → Powered n m t powers → (i k : ℕ) → i < n → k ≡ i * m + t → Place m k powers
place {n} {m} {t} {powers} s i k l e =
    let b : k < length powers = omega (arith, place_inside m i n t l s.interval, s.full) in
    record {
      inside = b;
      next = omega (arith, place_inside m i n t l s.interval, mul-le-mul s.few-devices s.few-intervals, s.few-intervals);
      power = s.small k b;
    }

abbrev pub sides_of : Kw → Kw → Sides
sides_of consuming producing = record { consuming = consuming; producing = producing }

-- a device's power on its side
abbrev pub with_side : Sides → ℕ → ℕ → Sides
with_side s side p = pick (eqb side 1) (sides_of (kw (s.consuming.0 + p)) s.producing) (sides_of s.consuming (kw (s.producing.0 + p)))

-- the code's two answers
module _ (s : Sides) (side p : ℕ) where
  abbrev on : Bool → Sides
  on b = pick b (sides_of (kw (s.consuming.0 + p)) s.producing) (sides_of s.consuming (kw (s.producing.0 + p)))

-- ---- the bars

abbrev pub bar_sides_of : Sides → Sides → BarSides
bar_sides_of first second = record { first = first; second = second }

-- all powers together
abbrev pub all_of : BarSides → ℕ
all_of s = (s.first.consuming.0 + s.first.producing.0) + (s.second.consuming.0 + s.second.producing.0)

-- a device's power on its bar
abbrev pub with_bar : BarSides → (bar side p : ℕ) → BarSides
with_bar s bar side p = pick (eqb bar 0) (bar_sides_of (with_side s.first side p) s.second) (bar_sides_of s.first (with_side s.second side p))

-- the code's two answers
module _ (s : BarSides) (bar side p : ℕ) where
  abbrev at : Bool → BarSides
  at b = pick b (bar_sides_of (with_side s.first side p) s.second) (bar_sides_of s.first (with_side s.second side p))

  pub bar-first : {x : Sides} → bar ≡ 0 → x ≡ with_side s.first side p → bar_sides_of x s.second ≡ with_bar s bar side p
  bar-first h e = ap (λ (y : Sides). bar_sides_of y s.second) e ∙ sym (ap at (eq-eqb bar 0 h))

  pub bar-second : {x : Sides} → (bar ≡ 0 → ⊥) → x ≡ with_side s.second side p → bar_sides_of s.first x ≡ with_bar s bar side p
  bar-second h e = ap (λ (y : Sides). bar_sides_of s.first y) e ∙ sym (ap at (ne_eqb bar 0 h))

  bar-all : all_of (with_bar s bar side p) ≡ all_of s + p
  bar-all = go (eqb bar 0) (eqb side 1)
    where
      go : (b c : Bool)
          → all_of (pick b (bar_sides_of (on s.first side p c) s.second) (bar_sides_of s.first (on s.second side p c))) ≡ all_of s + p
      go true true = omega arith
      go true false = omega arith
      go false true = omega arith
      go false false = omega arith

abbrev pub no_sides : Sides
no_sides = sides_of (kw 0) (kw 0)

abbrev pub no_bar_sides : BarSides
no_bar_sides = bar_sides_of no_sides no_sides

-- the powers of the first n devices in interval t, by their bars and sides
unfoldable pub bars_to : List (List ℕ) → List ℕ → ℕ → ℕ → ℕ → BarSides
bars_to devices powers m t zero = no_bar_sides
bars_to devices powers m t (suc i) = with_bar (bars_to devices powers m t i) (bar_at devices i) (side_at devices i) (get_or powers (i * m + t) 0)

-- how far two are apart
abbrev pub apart_of : ℕ → ℕ → ℕ
apart_of a b = (a - b) + (b - a)

abbrev pub mismatches_by : Kw → Kw → BarMismatches
mismatches_by first second = record { first = first; second = second }

-- each bar's, with a flow that is kept as f
abbrev pub mismatches_of : BarSides → ℕ → BarMismatches
mismatches_of s f = mismatches_by
    (kw (apart_of (s.first.consuming.0 + f) (s.first.producing.0 + kvar_offset)))
    (kw (apart_of (s.second.consuming.0 + kvar_offset) (s.second.producing.0 + f)))

-- what the loop over the devices has
pub record BarsSo (devices : List (List ℕ)) (powers : List ℕ) (m t i : ℕ) (s : BarSides) : Type 0 where
  pub is : s ≡ bars_to devices powers m t i
  pub small : all_of s ≤ i * most_power

module _ (devices : List (List ℕ)) (powers : List ℕ) (m t : ℕ) where
  pub bars-start : BarsSo devices powers m t 0 no_bar_sides
  unfolding bars_to
  bars-start = record { is = refl; small = omega arith }

  pub bars-next : (i : ℕ) {s r : BarSides} {k b x y : ℕ} → BarsSo devices powers m t i s → k ≡ i * m + t → b ≡ bar_at devices i → x ≡ side_at devices i → y ≡ get_or powers k 0
      → y ≤ most_power → r ≡ with_bar s b x y → BarsSo devices powers m t (i + 1) r
  unfolding bars_to
  bars-next i {s} {r} {k} {b} {x} {y} h j a e f l g = record { is = g ∙ rw (add-one i, h.is, a, e, f, j) refl; small = rw g (omega (arith, bar-all s b x y, h.small)) }

  -- the code's two mismatches
  pub mismatches-made : {n f g : ℕ} {s : BarSides} {x y : Kw} → BarsSo devices powers m t n s → g ≡ f
      → x.0 ≡ (mismatches_of s g).first.0 → y.0 ≡ (mismatches_of s g).second.0 → mismatches_by x y ≡ mismatches_of (bars_to devices powers m t n) f
  mismatches-made h k d e = ap₂ (λ (v w : ℕ). mismatches_by (kw v) (kw w)) d e ∙ rw (h.is, k) refl

-- ---- a decoded case and plan

module _ {front : Front} {halves : List ℕ} {zones minima devices cells : List (List ℕ)} (known : CaseRows front halves zones minima devices cells) (i : ℕ) (l : i < length devices) where
  abbrev system : System
  system = system_in halves zones minima devices cells

  -- a device that is not on bar 0 is on bar 1
  pub first-bar : eqb (bar_at devices i) 0 ≡ on_bar system 0 i
  first-bar = sym (W.bar-is halves zones minima devices cells i l 0)

  pub second-bar : not (eqb (bar_at devices i) 0) ≡ on_bar system 1 i
  second-bar = ap not first-bar ∙ go (device system i).bar (device-range known i l).bar
    where
      go : (b : ℕ) → b ≤ 1 → not (eqb b 0) ≡ eqb b 1
      go zero h = refl
      go (suc zero) h = refl
      go (suc (suc b)) h = absurd (omega arith)

module _ {front : Front} {halves : List ℕ} {zones minima devices cells settings : List (List ℕ)} {starts powers : List ℕ}
    (ready : Ready front halves zones minima devices cells settings starts powers) (t : ℕ) (h : t < length halves) where
  abbrev q : System
  q = system_in halves zones minima devices cells

  abbrev p : Plan
  p = plan_in (length devices) (length halves) settings

  abbrev m : ℕ
  m = length halves

  -- the powers of the first i devices on bar b
  record Sided (b i : ℕ) (s : Sides) : Type 0 where
    pub consuming-are : s.consuming.0 ≡ sumℕ (λ k. gate (on_bar q b k && consuming q k) (power q p t k)) (up_to i)
    pub producing-are : s.producing.0 ≡ sumℕ (λ k. gate (on_bar q b k && not (consuming q k)) (power q p t k)) (up_to i)

  -- one device more: on bar b or not
  sided-next : (b i : ℕ) (s : Sides) → i < length devices → Sided b i s
      → Sided b (suc i) (pick (on_bar q b i) (with_side s (side_at devices i) (get_or powers (i * m + t) 0)) s)
  sided-next b i s l r = rw (← W.consuming-is halves zones minima devices cells i l, ← add-one i) (go (on_bar q b i) (consuming q i) refl refl)
    where
      x : ℕ
      x = get_or powers (i * length halves + t) 0

      is : x ≡ power q p t i
      is = ready.forced-rows.power-is t i h l

      go : (c d : Bool) → on_bar q b i ≡ c → consuming q i ≡ d → Sided b (i + 1) (pick c (on s (side_at devices i) x d) s)
      go true true k j = record { consuming-are = sum-next _ i r.consuming-are (rw (k, j) is); producing-are = sum-skip _ i r.producing-are (rw (k, j) refl) }
      go true false k j = record { consuming-are = sum-skip _ i r.consuming-are (rw (k, j) refl); producing-are = sum-next _ i r.producing-are (rw (k, j) is) }
      go false d k j = record { consuming-are = sum-skip _ i r.consuming-are (rw k refl); producing-are = sum-skip _ i r.producing-are (rw k refl) }

  record Barred (i : ℕ) (s : BarSides) : Type 0 where
    pub first : Sided 0 i s.first
    pub second : Sided 1 i s.second

  barred-next : (i : ℕ) (s : BarSides) → i < length devices → Barred i s → Barred (suc i) (with_bar s (bar_at devices i) (side_at devices i) (get_or powers (i * m + t) 0))
  barred-next i s l r = go (eqb (bar_at devices i) 0) (first-bar ready.case_rows i l) (second-bar ready.case_rows i l)
      (sided-next 0 i s.first l r.first) (sided-next 1 i s.second l r.second)
    where
      x : ℕ
      x = get_or powers (i * length halves + t) 0

      more : Sides → Sides
      more v = with_side v (side_at devices i) x

      go : (b : Bool) → b ≡ on_bar q 0 i → not b ≡ on_bar q 1 i
          → Sided 0 (suc i) (pick (on_bar q 0 i) (more s.first) s.first) → Sided 1 (suc i) (pick (on_bar q 1 i) (more s.second) s.second)
          → Barred (suc i) (pick b (bar_sides_of (more s.first) s.second) (bar_sides_of s.first (more s.second)))
      go true e f u v = record { first = rw (← e) at u; second = rw (← f) at v }
      go false e f u v = record { first = rw (← e) at u; second = rw (← f) at v }

  barred-to : (i : ℕ) → i ≤ length devices → Barred i (bars_to devices powers m t i)
  unfolding bars_to range
  barred-to zero l = record { first = record { consuming-are = refl; producing-are = refl }; second = record { consuming-are = refl; producing-are = refl } }
  barred-to (suc i) l = barred-next i (bars_to devices powers m t i) (omega arith) (barred-to i (omega arith))

  -- a bar's two totals
  sided-all : (b : ℕ) (s : Sides) → Sided b (length devices) s → (s.consuming.0 ≡ C.total q p true t b) × (s.producing.0 ≡ C.total q p false t b)
  unfolding C.total
  sided-all b s r =
      let n : length devices ≡ count q = sym (W.devices-are halves zones minima devices cells) in (
        r.consuming-are ∙ ap (λ (j : ℕ). sumℕ (λ k. gate (on_bar q b k && consuming q k) (power q p t k)) (up_to j)) n,
        r.producing-are ∙ ap (λ (j : ℕ). sumℕ (λ k. gate (on_bar q b k && not (consuming q k)) (power q p t k)) (up_to j)) n,
      )

  -- the flow as it is kept is load on bar 0 and production on bar 1
  leaving-first : (a b f : ℕ) → (pos a -ℤ pos b) +ℤ less kvar_offset f ≡ pos (a + f) -ℤ pos (b + kvar_offset)
  leaving-first a b f = omega (whole, n- (pos a) (pos b), n- (pos f) (pos kvar_offset), n+ (pos a -ℤ pos b) (less kvar_offset f), n- (pos (a + f)) (pos (b + kvar_offset)))

  leaving-second : (a b f : ℕ) → (pos a -ℤ pos b) +ℤ neg_ℤ (less kvar_offset f) ≡ pos (a + kvar_offset) -ℤ pos (b + f)
  leaving-second a b f = omega (
    whole,
    n- (pos a) (pos b),
    n- (pos f) (pos kvar_offset),
    n~ (less kvar_offset f),
    n+ (pos a -ℤ pos b) (neg_ℤ (less kvar_offset f)),
    n- (pos (a + kvar_offset)) (pos (b + f)),
  )

  -- "|consuming − producing p|" of each bar, with the flow
  pub mismatches-are : mismatches_of (bars_to devices powers m t (length devices)) (flow_at settings t) ≡ mismatches_by (kw (C.mismatch_need q p t 0)) (kw (C.mismatch_need q p t 1))
  unfolding C.mismatch_need
  mismatches-are =
      let s : BarSides = bars_to devices powers m t (length devices) in
      let r : Barred (length devices) s = barred-to (length devices) (omega arith) in
      ap₂ (λ (a b : ℕ). mismatches_by (kw a) (kw b)) (first s.first r.first) (second s.second r.second)
    where
      f : ℕ
      f = flow_at settings t

      first : (s : Sides) → Sided 0 (length devices) s → apart_of (s.consuming.0 + f) (s.producing.0 + kvar_offset) ≡ C.mismatch_need q p t 0
      first s r =
          let a = sided-all 0 s r in
          sym (apart-is (s.consuming.0 + f) (s.producing.0 + kvar_offset))
          ∙ ap nat_abs (sym (leaving-first s.consuming.0 s.producing.0 f))
          ∙ rw (a.0, a.1, ← W.flow-is (length devices) m settings q t h) refl

      second : (s : Sides) → Sided 1 (length devices) s → apart_of (s.consuming.0 + kvar_offset) (s.producing.0 + f) ≡ C.mismatch_need q p t 1
      second s r =
          let a = sided-all 1 s r in
          sym (apart-is (s.consuming.0 + kvar_offset) (s.producing.0 + f))
          ∙ ap nat_abs (sym (leaving-second s.consuming.0 s.producing.0 f))
          ∙ rw (a.0, a.1, ← W.flow-is (length devices) m settings q t h) refl
