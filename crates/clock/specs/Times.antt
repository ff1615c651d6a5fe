-- S of each interval and the last E, from the halves of the durations.
use Rattle.std.specs.Prelude.{◌≡◌, List, ℕ, ◌+◌, ◌*◌, ◌≤◌, ◌<◌, length, set}
use Rattle.std.proofs.Math.Path.{refl}
use Rattle.std.proofs.Common.{◌∙◌, arith, le_refl, length-set, get_or-set_same, get_or-set_other}
use Rattle.std.proofs.Math.Decide.{dec_le}
use Rattle.std.proofs.Math.ListN.{get_or, get_or-eq_default}
use Rattle.numbers.specs.Sum.{sumℕ}
use Rattle.numbers.specs.Base.{range, up_to}
use Rattle.numbers.specs.Ranges.{sum_more, sum-rises, sum-few}
use Rattle.records.specs.Views.{most_intervals, last_minute}

unfoldable pub start_at : List ℕ → ℕ → ℕ
start_at halves t = sumℕ (λ k. 2 * get_or halves k 0) (up_to t)

-- those of the intervals up to t, while they are being written
pub record TimesTo (halves : List ℕ) (t : ℕ) (starts : List ℕ) : Type 0 where
  pub long : length starts ≡ length halves + 1
  pub start : (k : ℕ) → k ≤ t → get_or starts k 0 ≡ start_at halves k

-- all of them
abbrev pub Times : List ℕ → List ℕ → Type 0
Times halves starts = TimesTo halves (length halves) starts

-- no interval takes more than 360 minutes
pub record Halves (halves : List ℕ) : Type 0 where
  pub few : length halves ≤ most_intervals
  pub half : (t : ℕ) → get_or halves t 0 ≤ 180

-- what trajectories ask of the times of m intervals
pub record Clock (m : ℕ) (starts : List ℕ) : Type 0 where
  pub long : length starts ≡ m + 1
  pub early : (k : ℕ) → get_or starts k 0 ≤ last_minute
  pub rising : (a b : ℕ) → a ≤ b → b ≤ m → get_or starts a 0 ≤ get_or starts b 0

module _ (halves : List ℕ) where
  pub start_none : start_at halves 0 ≡ 0
  unfolding start_at range
  start_none = refl

  pub start-next : (t : ℕ) → start_at halves (t + 1) ≡ start_at halves t + 2 * get_or halves t 0
  unfolding start_at
  start-next t = sum_more (λ k. 2 * get_or halves k 0) t

  -- S grows with the interval
  pub start-order : (a b : ℕ) → a ≤ b → start_at halves a ≤ start_at halves b
  unfolding start_at
  start-order a b h = sum-rises (λ k. 2 * get_or halves k 0) a b h

  start-low : Halves halves → (t : ℕ) → start_at halves t ≤ 360 * t
  unfolding start_at
  start-low h t = omega (arith, sum-few (λ k. 2 * get_or halves k 0) 360 t t (le_refl t) (λ k l. omega (arith, h.half k)))

  pub clock-of : {starts : List ℕ} → Halves halves → Times halves starts → Clock (length halves) starts
  clock-of {starts} h c = record {
    long = c.long;
    early = λ k. early k (dec_le k (length halves));
    rising = λ a b l m. omega (arith, c.start a (omega arith), c.start b m, start-order a b l);
  }
    where
      early : (k : ℕ) → Dec (k ≤ length halves) → get_or starts k 0 ≤ last_minute
      early k (yes x) = omega (arith, c.start k x, start-low h k, h.few)
      early k (no x) = let l : length starts ≤ k = omega (arith, c.long) in rw (get_or-eq_default starts 0 l) (omega arith)

  pub times_none : (starts : List ℕ) → length starts ≡ length halves + 1 → TimesTo halves 0 (set starts 0 0)
  times_none starts e = record {
    long = length-set starts 0 0 ∙ e;
    start = λ k l. let z : k ≡ 0 = omega arith in rw z (get_or-set_same starts 0 0 0 (omega arith) ∙ omega (arith, start_none));
  }

  pub times-next : {t v : ℕ} {starts : List ℕ} → t < length halves → TimesTo halves t starts → v ≡ start_at halves (t + 1) → TimesTo halves (t + 1) (set starts (t + 1) v)
  times-next {t} {v} {starts} l h e = record { long = length-set starts (t + 1) v ∙ h.long; start = λ k b. start k b (dec_le (t + 1) k) }
    where
      start : (k : ℕ) → k ≤ t + 1 → Dec (t + 1 ≤ k) → get_or (set starts (t + 1) v) k 0 ≡ start_at halves k
      start k b (yes x) = let q : k ≡ t + 1 = omega arith in rw q (get_or-set_same starts (t + 1) v 0 (omega (arith, h.long)) ∙ e)
      start k b (no x) = get_or-set_other starts (t + 1) k v 0 (λ q. omega arith) ∙ h.start k (omega arith)
