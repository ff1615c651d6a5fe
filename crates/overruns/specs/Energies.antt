-- The energy of a device in a window, and its overrun.
use Rattle.std.specs.Prelude.{◌≡◌, Bool, List, [], eqb, length, ◌-ℤ◌}
use Rattle.std.proofs.Math.Path.{refl, sym, ap, ap₂}
use Rattle.std.proofs.Common.{subst, ◌∙◌, add-zero, add-suc}
use Rattle.std.proofs.Math.Bool.{true, false}
use Prim.Native.Nat.{ℕ, zero, suc, ◌+◌, ◌-◌, ◌*◌, ◌≤◌, ◌<◌, min, max}
use native.Mathlib.Omega.{arith}
use Rattle.std.proofs.Math.Numerals.{add-one}
use Rattle.std.proofs.Math.Nat.{mul_comm, mul-le-mul}
use Rattle.std.proofs.Math.ListN.{get_or}
use Rattle.std.proofs.Math.IntN.{pos}
use Rattle.numbers.specs.Laws.{max_zero, above-is}
use Rattle.numbers.specs.Sum.{sumℕ}
use Rattle.bits.specs.Pick.{pick}
use Rattle.numbers.specs.Base.{range, up_to}
use Rattle.model.specs.Case.{System, Plan}
use Rattle.model.specs.Forced.{energy_window, power}
use Rattle.model.specs.Completion as C
use Rattle.row_places.specs.declared.EnergyWindow.{EnergyWindow}
use Rattle.row_places.specs.declared.Front.{Front}
use Rattle.row_places.specs.Figures.{device_of}
use Rattle.numbers.specs.Parts.{part, part-long}
use Rattle.numbers.specs.Ranges.{sum-next}
use Rattle.records.specs.Views.{system_in, plan_in, energy_in, most_intervals, most_power, Ready}
use Rattle.records.specs.Viewed as W
use Rattle.row_places.specs.Figures.{no_energy}
use Rattle.records.specs.Ranged.{half-small, end-at, start-next, power-at, power_small}

-- the longest interval: twice 180 minutes
abbrev pub longest : ℕ
longest = 360

-- the times of intervals, the last one's end included, and a device's powers in them
pub record Running (starts powers : List ℕ) : Type 0 where
  pub few : length powers ≤ most_intervals
  pub timed : length powers < length starts
  pub short : (t : ℕ) → t < length powers → get_or starts (t + 1) 0 ≤ get_or starts t 0 + longest
  pub small : (t : ℕ) → t < length powers → get_or powers t 0 ≤ most_power
  pub rising : (t : ℕ) → t < length powers → get_or starts t 0 ≤ get_or starts (t + 1) 0

-- the minutes that an interval shares with a window
abbrev pub minutes_of : EnergyWindow → (start end : ℕ) → ℕ
minutes_of w start end = min end w.until - max start w.from

-- a device's energy in the first n intervals
unfoldable pub energy_to : EnergyWindow → (starts powers : List ℕ) → ℕ → ℕ
energy_to w starts powers zero = 0
energy_to w starts powers (suc t) = energy_to w starts powers t + minutes_of w (get_or starts t 0) (get_or starts (t + 1) 0) * get_or powers t 0

-- "above a maximum or below a minimum"
abbrev pub over_of : EnergyWindow → ℕ → ℕ
over_of w e = pick (eqb w.kind 0) (e - w.energy.0) (w.energy.0 - e)

-- what the loop over the intervals has
pub record Spent (w : EnergyWindow) (starts powers : List ℕ) (t e : ℕ) : Type 0 where
  pub is : e ≡ energy_to w starts powers t
  pub spent-small : e ≤ t * (most_power * longest)

module _ (w : EnergyWindow) (starts powers : List ℕ) where
  pub spent-start : Spent w starts powers 0 0
  unfolding energy_to
  spent-start = record { is = refl; spent-small = omega arith }

  module _ (r : Running starts powers) (t : ℕ) (l : t < length powers) {e v y : ℕ} (s : Spent w starts powers t e) (n : v ≤ longest) (d : y ≡ get_or powers t 0 * v) where
    pub spent-next : {z : ℕ} → v ≡ minutes_of w (get_or starts t 0) (get_or starts (t + 1) 0) → z ≡ e + y → Spent w starts powers (t + 1) z
    unfolding energy_to
    spent-next f z = rw (z, add-one t) record {
      is = ap₂ (λ (a b : ℕ). a + b) s.is (d ∙ mul_comm (get_or powers t 0) v ∙ ap (λ (x : ℕ). x * get_or powers t 0) f);
      spent-small = omega (arith, s.spent-small, mul-le-mul (r.small t l) n);
    }

  -- an interval that ends before the window
  pub spent-none : {t : ℕ} → get_or starts (t + 1) 0 ≤ w.from → Spent w starts powers t 0 → Spent w starts powers (t + 1) 0
  unfolding energy_to
  spent-none {t} h s =
      let z : minutes_of w (get_or starts t 0) (get_or starts (t + 1) 0) ≡ 0 = omega arith in
      rw (add-one t) record { is = rw z (omega (arith, s.is)); spent-small = omega arith }

  step-none : (t : ℕ) → minutes_of w (get_or starts t 0) (get_or starts (t + 1) 0) ≡ 0 → energy_to w starts powers (suc t) ≡ energy_to w starts powers t
  unfolding energy_to
  step-none t z = rw z (omega arith)

  -- nothing is spent in the k intervals from one on that begins behind the window
  rest-none : Running starts powers → (t k : ℕ) → t + k ≤ length powers → w.until ≤ get_or starts t 0
      → (w.until ≤ get_or starts (t + k) 0) × (energy_to w starts powers (t + k) ≡ energy_to w starts powers t)
  rest-none r t zero h l = rw (add-zero t) (l, refl)
  rest-none r t (suc k) h l =
      let x = rest-none r t k (omega arith) l in
      let up = r.rising (t + k) (omega arith) in
      let far : w.until ≤ get_or starts (t + k + 1) 0 = omega (arith, x.0) in
      rw (add-suc t k) (subst (λ (n : ℕ). w.until ≤ get_or starts n 0) (add-one (t + k)) far, step-none (t + k) (omega (arith, x.0)) ∙ x.1)

  pub spent-rest : Running starts powers → (t : ℕ) {e : ℕ} → t < length powers → w.until ≤ get_or starts t 0 → Spent w starts powers t e → e ≡ energy_to w starts powers (length powers)
  spent-rest r t h l s =
      let n : t + (length powers - t) ≡ length powers = omega arith in
      s.is ∙ sym (rest-none r t (length powers - t) (omega arith) l).1 ∙ ap (energy_to w starts powers) n

-- ---- a decoded case and plan

module _ {front : Front} {halves : List ℕ} {zones minima devices cells settings : List (List ℕ)} {starts powers : List ℕ}
    (ready : Ready front halves zones minima devices cells settings starts powers) (i : ℕ) (l : i < length devices) where
  abbrev q : System
  q = system_in halves zones minima devices cells

  abbrev p : Plan
  p = plan_in (length devices) (length halves) settings

  abbrev m : ℕ
  m = length halves

  abbrev own : List ℕ
  own = part (length halves) i powers

  own-long : length own ≡ m
  own-long = part-long m i (length devices) powers l ready.forced-rows.powers-full

  pub running : Running starts own
  running = record {
    few = omega (arith, own-long, ready.case_rows.few-intervals);
    timed = omega (arith, own-long, ready.forced-rows.starts-full);
    short = λ t h. omega (arith, own-long, half-small ready.case_rows t, start-next ready t (omega (arith, own-long)));
    small = λ t h. power_small ready i l t (omega (arith, own-long));
    rising = λ t h. omega (arith, own-long, start-next ready t (omega (arith, own-long)));
  }

  module _ (j : ℕ) (k : j < (device_of (get_or devices i [])).nenergies) where
    abbrev w : EnergyWindow
    w = get_or (device_of (get_or devices i [])).energies j no_energy

    abbrev term : ℕ → ℕ
    term t = C.minutes_in q p (energy_window q i j).from (energy_window q i j).until t * power q p t i

    window-is : energy_window q i j ≡ energy_in w
    window-is = W.energy-window-is halves zones minima devices cells i l j k

    minutes-are : (t : ℕ) → t < m → minutes_of w (get_or starts t 0) (get_or starts (t + 1) 0) ≡ C.minutes_in q p (energy_window q i j).from (energy_window q i j).until t
    unfolding C.minutes_in
    minutes-are t h = rw (window-is, ready.forced-rows.start t (omega arith), end-at ready t h) refl

    energy-to : (t : ℕ) → t ≤ m → energy_to w starts own t ≡ sumℕ term (up_to t)
    unfolding energy_to range
    energy-to zero h = refl
    energy-to (suc t) h =
        sum-next term t (energy-to t (omega arith)) (ap₂ (λ (a b : ℕ). a * b) (minutes-are t (omega arith)) (power-at ready i l t (omega arith)))
        ∙ ap (λ (n : ℕ). sumℕ term (up_to n)) (add-one t)

    energy-is : energy_to w starts own (length own) ≡ C.energy_in q p i j
    unfolding C.energy_in
    energy-is = ap (energy_to w starts own) own-long ∙ energy-to m (omega arith) ∙ ap (λ (n : ℕ). sumℕ term (up_to n)) (sym (W.intervals-are halves zones minima devices cells))

    pub overrun-is : over_of w (energy_to w starts own (length own)) ≡ max_zero (C.overrun_need q p i j)
    unfolding C.overrun_need
    overrun-is = ap (over_of w) energy-is ∙ rw window-is (go (eqb w.kind 0) (C.energy_in q p i j))
      where
        go : (b : Bool) (e : ℕ) → pick b (e - w.energy.0) (w.energy.0 - e) ≡ max_zero (pick b (pos e -ℤ pos w.energy.0) (pos w.energy.0 -ℤ pos e))
        go true e = sym (above-is e w.energy.0)
        go false e = sym (above-is w.energy.0 e)
