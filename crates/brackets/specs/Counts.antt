-- The bracket n of a device in interval t, out of its parts of the tables: on, and each trajectory above 0; overlapping curves count each. Where the power is the online power, n is u.
use Rattle.std.specs.Prelude.{◌≡◌, refl, List, ℕ, zero, suc, ◌+◌, ◌*◌, ◌≤◌, ◌<◌, ltb, length}
use Rattle.std.proofs.Common.{arith, le-ltb}
use Rattle.numbers.specs.Sum.{sumℕ, sumℕ-mono, all, gate}
use Rattle.numbers.specs.Base.{up_to, bit}
use Rattle.numbers.specs.Every.{bit_le}
use Rattle.numbers.specs.Ranges.{sum_more, sum-few}
use Rattle.row_places.specs.Figures.{on_at, online_at, pmin_at, started_at, stopped_at}
use Rattle.clock.specs.Times.{Clock}
use Rattle.trajectories.specs.Trajectories.{leaves_at, rise_in, fall_in}
use Rattle.ramped_powers.specs.declared.Ramping.{Ramping}
use Rattle.ramped_powers.specs.Changes.{Rampable}

module _ (r : Ramping) (cells settings : List (List ℕ)) (starts : List ℕ) (t : ℕ) where
  -- what a later start in e gives t (204, 205)
  abbrev pub start_power : ℕ → ℕ
  start_power e = gate (ltb t e) (started_at r.on0 settings e * rise_in (pmin_at cells e) r.starting starts e t)

  -- what a stop in e, up to t, gives it (206 to 208)
  abbrev pub stop_power : ℕ → ℕ
  stop_power e = stopped_at r.on0 settings e * fall_in (leaves_at r.power0.0 cells e) r.stopping starts e t

  -- 1 where that is above 0
  abbrev pub start_count : ℕ → ℕ
  start_count e = bit (ltb 0 (start_power e))

  abbrev pub stop_count : ℕ → ℕ
  stop_count e = bit (ltb 0 (stop_power e))

  unfoldable pub starts_above : ℕ
  starts_above = sumℕ start_count (up_to (length cells))

  unfoldable pub stops_above : ℕ
  stops_above = sumℕ stop_count (up_to (suc t))

  -- "on, and each trajectory above 0" (112 to 126)
  unfoldable pub bracket_at : ℕ
  bracket_at = on_at settings t + starts_above + stops_above

  -- "Power p = online power + psu + psd" (68)
  unfoldable pub power_at : ℕ
  power_at = online_at settings t + sumℕ start_power (up_to (length cells)) + sumℕ stop_power (up_to (suc t))

-- ---- no trajectory reaches t

above-small : (x : ℕ) → bit (ltb 0 x) ≤ x
above-small zero = omega arith
above-small (suc x) = omega (arith, bit_le (ltb 0 (suc x)))

-- those above 0 are no more than their sum
counts-small : (f : ℕ → ℕ) (n : ℕ) → sumℕ (λ e. bit (ltb 0 (f e))) (up_to n) ≤ sumℕ f (up_to n)
counts-small f n = sumℕ-mono _ f (up_to n) (all (λ e. above-small (f e)) (up_to n))

-- the power is the online power, so each term is 0
pub bracket-on : (r : Ramping) (cells settings : List (List ℕ)) (starts : List ℕ) (t : ℕ) → online_at settings t ≡ power_at r cells settings starts t
    → on_at settings t ≡ bracket_at r cells settings starts t
unfolding power_at bracket_at starts_above stops_above
bracket-on r cells settings starts t h = omega (
  arith,
  counts-small (start_power r cells settings starts t) (length cells),
  counts-small (stop_power r cells settings starts t) (suc t),
)

-- ---- what the code relies on

-- figures within their ranges
pub record Countable (r : Ramping) (cells settings : List (List ℕ)) (starts : List ℕ) : Type 0 where
  pub rampable : Rampable r cells
  pub same : length settings ≡ length cells
  pub on : (t : ℕ) → t < length cells → on_at settings t ≤ 1
  pub clock : Clock (length cells) starts

module _ (r : Ramping) (cells settings : List (List ℕ)) (starts : List ℕ) (t e : ℕ) where
  -- a start up to t gives nothing
  not-later : e < t + 1 → start_count r cells settings starts t e ≡ 0
  not-later h = rw (le-ltb t e (omega arith)) refl

-- ---- those counted below e

pub record CountedTo (f : ℕ → ℕ) (e n : ℕ) : Type 0 where
  pub total : n ≡ sumℕ f (up_to e)
  pub few : n ≤ e

module _ (f : ℕ → ℕ) where
  pub counted_none : (e : ℕ) → ((k : ℕ) → k < e → f k ≡ 0) → CountedTo f e 0
  counted_none e h = record { total = omega (arith, sum-few f 0 e e (omega arith) (λ k l. omega (arith, h k l))); few = omega arith }

  pub counted_next : {e n x : ℕ} → CountedTo f e n → x ≡ f e → x ≤ 1 → CountedTo f (e + 1) (n + x)
  counted_next {e} h g l = record { total = omega (arith, h.total, sum_more f e); few = omega (arith, h.few) }

module _ (r : Ramping) (cells settings : List (List ℕ)) (starts : List ℕ) (t : ℕ) where
  pub starts_none : CountedTo (start_count r cells settings starts t) (t + 1) 0
  starts_none = counted_none _ (t + 1) (λ e h. not-later r cells settings starts t e h)

  pub stops-none : CountedTo (stop_count r cells settings starts t) 0 0
  stops-none = counted_none _ 0 (λ e h. absurd (omega arith))

  pub starts-all : {e n : ℕ} → e ≡ length cells → CountedTo (start_count r cells settings starts t) e n → n ≡ starts_above r cells settings starts t
  unfolding starts_above
  starts-all g h = rw (← g) h.total

  pub stops-all : {e n : ℕ} → e ≡ suc t → CountedTo (stop_count r cells settings starts t) e n → n ≡ stops_above r cells settings starts t
  unfolding stops_above
  stops-all g h = rw (← g) h.total
