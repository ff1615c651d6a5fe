-- A device's powers as the code builds them: its online powers, then what each start and each stop adds.
use Rattle.std.specs.Prelude.{◌≡◌, refl, Bool, true, false, ◌&&◌, List, ℕ, ◌+◌, ◌-◌, ◌*◌, ◌≤◌, ◌<◌, leb, length, get_or}
use Rattle.std.proofs.Common.{◌∙◌, add-zero, zero-add, le_refl}
use native.Mathlib.Omega.{arith}
use Rattle.std.proofs.Math.Decide.{dec_le}
use Rattle.std.proofs.Math.Nat.{one-mul, zero-mul}
use borrow.Author.Tests.{lt-ltb, le-ltb, ltb-true, eq-eqb, ne_eqb}
use Rattle.std.proofs.Math.Dec.{ltb}
use Rattle.std.proofs.Math.ListN.{get_or-eq_default}
use Rattle.numbers.specs.Sum.{sumℕ, gate}
use Rattle.numbers.specs.Base.{range, up_to, bit}
use Rattle.row_places.specs.declared.Device.{Device}
use Rattle.row_places.specs.Figures.{on_at, online_at, pmin_at, on_before}
use Rattle.numbers.specs.Ranges.{sum_more, sum-few}
use Rattle.records.specs.Views.{most_intervals, most_power}
use Rattle.ramped_powers.specs.declared.Ramping.{Ramping}
use Rattle.trajectories.specs.Trajectories.{leaves_at, rise_in, fall_in, Raised}

-- what a device's trajectories are computed from
abbrev pub ramping_of : Device → Ramping
ramping_of d = record { on0 = d.on0; power0 = d.power0; starting = get_or d.ramps 2 0; stopping = get_or d.ramps 3 0 }

-- figures within their ranges
pub record Rampable (r : Ramping) (cells : List (List ℕ)) : Type 0 where
  pub few : length cells ≤ most_intervals
  pub power_small : r.power0.0 ≤ 100000
  pub starting-small : r.starting ≤ 100000
  pub stopping-small : r.stopping ≤ 100000
  pub pmin-small : (t : ℕ) → t < length cells → pmin_at cells t ≤ 100000

pub record Settled (cells settings : List (List ℕ)) : Type 0 where
  pub same : length settings ≡ length cells
  pub online-small : (t : ℕ) → t < length cells → online_at settings t ≤ 100000

-- room for one trajectory more
pub record Low (row : List ℕ) : Type 0 where
  pub below : (k : ℕ) → get_or row k 0 ≤ most_power - 100000

-- every number raised by f
pub record Changed (f : ℕ → ℕ) (old new : List ℕ) : Type 0 where
  pub long : length new ≡ length old
  pub number : (k : ℕ) → get_or new k 0 ≡ get_or old k 0 + f k

-- what interval e adds to interval k, by the commitments before it and in it
unfoldable pub added_by : Ramping → List (List ℕ) → List ℕ → (before on e k : ℕ) → ℕ
added_by r cells starts before on e k =
    bit (ltb before on) * gate (leb 0 k && ltb k e) (rise_in (pmin_at cells e) r.starting starts e k)
    + bit (ltb on before) * gate (leb e k && ltb k (length cells)) (fall_in (leaves_at r.power0.0 cells e) r.stopping starts e k)

abbrev pub added : Ramping → List (List ℕ) → List (List ℕ) → List ℕ → ℕ → ℕ → ℕ
added r cells settings starts e k = added_by r cells starts (on_before r.on0 settings e) (on_at settings e) e k

-- the commitment before the next interval
pub before-next : (on0 : ℕ) (settings : List (List ℕ)) (e : ℕ) {on : ℕ} → on ≡ on_at settings e → on ≡ on_before on0 settings (e + 1)
before-next on0 settings e h = let z : e + 1 - 1 ≡ e = omega arith in h ∙ rw (ne_eqb (e + 1) 0 (λ q. omega arith), z) refl

-- ---- one interval's change

pub leaves-low : (r : Ramping) (cells : List (List ℕ)) (e : ℕ) → Rampable r cells → e < length cells → leaves_at r.power0.0 cells e ≤ 100000
leaves-low r cells e h l = go (dec_le e 0)
  where
    go : Dec (e ≤ 0) → leaves_at r.power0.0 cells e ≤ 100000
    go (yes z) = rw (eq-eqb e 0 (omega arith)) h.power_small
    go (no z) = rw (ne_eqb e 0 (λ q. omega arith)) (h.pmin-small (e - 1) (omega arith))

-- a start, a stop, or neither
module _ (r : Ramping) (cells : List (List ℕ)) (starts : List ℕ) (before on e : ℕ) where
  pub started-adds : {power : ℕ} {old new : List ℕ} → before < on → power ≡ pmin_at cells e → Raised (rise_in power r.starting starts e) 0 e old new
      → Changed (added_by r cells starts before on e) old new
  unfolding added_by
  started-adds {power} {old} {new} l z h = record { long = h.long; number = λ k. h.number k ∙ simp (z, lt-ltb before on l, le-ltb on before (omega arith), one-mul, zero-mul, add-zero) }

  pub stopped-adds : {power : ℕ} {old new : List ℕ} → on < before → power ≡ leaves_at r.power0.0 cells e → length old ≡ length cells
      → Raised (fall_in power r.stopping starts e) e (length old) old new → Changed (added_by r cells starts before on e) old new
  unfolding added_by
  stopped-adds {power} {old} {new} l z n h = record {
    long = h.long;
    number = λ k. h.number k ∙ simp (z, n, lt-ltb on before l, le-ltb before on (omega arith), one-mul, zero-mul, zero-add);
  }

  pub kept-adds : (old : List ℕ) → on ≤ before → before ≤ on → Changed (added_by r cells starts before on e) old old
  unfolding added_by
  kept-adds old l m = record { long = refl; number = λ k. simp (le-ltb on before m, le-ltb before on l, zero-mul, add-zero) }

  added-one : (t s : Bool) (x y : ℕ) → (t ≡ true → s ≡ false) → x ≤ 100000 → y ≤ 100000 → bit t * x + bit s * y ≤ 100000
  added-one true s x y f h j = rw (f refl) (omega arith)
  added-one false true x y f h j = omega arith
  added-one false false x y f h j = omega arith

  gate-low : (t : Bool) (x : ℕ) → x ≤ 100000 → gate t x ≤ 100000
  gate-low true x h = h
  gate-low false x h = omega arith

  pub added-low : (k : ℕ) → Rampable r cells → e < length cells → added_by r cells starts before on e k ≤ 100000
  unfolding added_by
  added-low k h l = added-one (ltb before on) (ltb on before) _ _ (λ q. le-ltb on before (omega (arith, ltb-true before on q)))
      (gate-low (leb 0 k && ltb k e) (rise_in (pmin_at cells e) r.starting starts e k) (omega (arith, h.pmin-small e l)))
      (gate-low (leb e k && ltb k (length cells)) (fall_in (leaves_at r.power0.0 cells e) r.stopping starts e k) (omega (arith, leaves-low r cells e h l)))

-- ---- the online powers

-- those below t, while they are being written
pub record OnlineTo (settings : List (List ℕ)) (t : ℕ) (row : List ℕ) : Type 0 where
  pub long : length row ≡ length settings
  pub number : (k : ℕ) → k < t → get_or row k 0 ≡ online_at settings k

-- all of them
abbrev pub Online : List (List ℕ) → List ℕ → Type 0
Online settings row = OnlineTo settings (length settings) row

-- ---- the changes so far

pub record Grown (f : ℕ → ℕ → ℕ) (e : ℕ) (base row : List ℕ) : Type 0 where
  pub long : length row ≡ length base
  pub number : (k : ℕ) → get_or row k 0 ≡ get_or base k 0 + sumℕ (λ j. f j k) (up_to e)

module _ (f : ℕ → ℕ → ℕ) (base : List ℕ) where
  pub grown-none : Grown f 0 base base
  unfolding range
  grown-none = record { long = refl; number = λ k. omega arith }

  pub grown-next : {e : ℕ} {row new : List ℕ} → Grown f e base row → Changed (f e) row new → Grown f (e + 1) base new
  grown-next {e} h c = record { long = c.long ∙ h.long; number = λ k. omega (arith, c.number k, h.number k, sum_more (λ j. f j k) e) }

-- a device's powers
pub record Powers (r : Ramping) (cells settings : List (List ℕ)) (starts : List ℕ) (row : List ℕ) : Type 0 where
  pub long : length row ≡ length cells
  pub number : (k : ℕ) → k < length cells → get_or row k 0 ≡ online_at settings k + sumℕ (λ e. added r cells settings starts e k) (up_to (length cells))
  pub small : (k : ℕ) → get_or row k 0 ≤ most_power

module _ (r : Ramping) (cells settings : List (List ℕ)) (starts : List ℕ) (h : Rampable r cells) (s : Settled cells settings) {base : List ℕ} (o : Online settings base) where
  online-low : (k : ℕ) → get_or base k 0 ≤ 100000
  online-low k = go (dec_le (length settings) k)
    where
      go : Dec (length settings ≤ k) → get_or base k 0 ≤ 100000
      go (yes a) = let l : length base ≤ k = omega (arith, o.long) in rw (get_or-eq_default base 0 l) (omega arith)
      go (no a) = rw (o.number k (omega arith)) (s.online-small k (omega (arith, s.same)))

  grown-bound : {e : ℕ} {row : List ℕ} → e ≤ length cells → Grown (added r cells settings starts) e base row → (k : ℕ) → get_or row k 0 ≤ 100000 + e * 100000
  grown-bound {e} l g k = omega (
    arith,
    g.number k,
    online-low k,
    sum-few (λ j. added r cells settings starts j k) 100000 e e (le_refl e) (λ j m. added-low r cells starts (on_before r.on0 settings j) (on_at settings j) j k h (omega arith)),
  )

  pub grown-low : {e : ℕ} {row : List ℕ} → e < length cells → Grown (added r cells settings starts) e base row → Low row
  grown-low {e} l g = record { below = λ k. omega (arith, grown-bound (omega arith) g k, h.few) }

  -- one interval more, by the commitments that the code has
  pub grown-more : {e before on : ℕ} {row new : List ℕ} → before ≡ on_before r.on0 settings e → on ≡ on_at settings e
      → Grown (added r cells settings starts) e base row → Changed (added_by r cells starts before on e) row new → Grown (added r cells settings starts) (e + 1) base new
  grown-more {e} b n g c = grown-next (added r cells settings starts) base g (rw (b, n) at c)

  pub grown-all : {e : ℕ} {row : List ℕ} → e ≤ length cells → length cells ≤ e → Grown (added r cells settings starts) e base row → Powers r cells settings starts row
  grown-all {e} l m g = record {
    long = omega (arith, g.long, o.long, s.same);
    number = λ k b.
        let q : e ≡ length cells = omega arith in
        g.number k ∙ rw (q, o.number k (omega (arith, s.same))) refl;
    small = λ k. omega (arith, grown-bound l g k, h.few);
  }
