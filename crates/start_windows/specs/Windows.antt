-- Rule 20: the starts of a device inside a window, in its part of the settings.
use Rattle.std.specs.Prelude.{◌≡◌, refl, Bool, true, false, ◌&&◌, List, [], ℕ, zero, suc, ◌+◌, ◌-◌, ◌≤◌, ◌<◌, leb, ltb, get_or}
use Rattle.std.proofs.Common.{sym, ◌∙◌, add-one, le_refl, add-zero, add-suc, le-leb, lt-ltb, le-ltb}
use native.Mathlib.Omega.{arith}
use Rattle.std.proofs.Math.Decide.{dec_le}
use Rattle.std.proofs.lemmas.Bool.{lt-leb}
use Rattle.std.proofs.Math.ListN.{length}
use Rattle.numbers.specs.Sum.{all, sumℕ, sumℕ-mono, gate}
use Rattle.numbers.specs.Every.{gate-le, bit_le}
use Rattle.numbers.specs.Base.{range, up_to}
use Rattle.model.specs.Case.{System, Plan}
use Rattle.model.specs.Forced as F
use Rattle.model.specs.Rules as R
use Rattle.row_places.specs.Figures.{device_of, on_at, on_before, started_at}
use Rattle.numbers.specs.Parts.{part, part-long}
use Rattle.numbers.specs.Ranges.{sum_more, sum-skip, sum_same}
use Rattle.records.specs.Views.{system_in, plan_in, most_intervals, Ready}
use Rattle.records.specs.Viewed as W
use Rattle.row_places.specs.Figures.{no_start}
use Rattle.row_places.specs.declared.Device.{Device}
use Rattle.row_places.specs.declared.Front.{Front}
use Rattle.row_places.specs.declared.StartWindow.{StartWindow}

-- su is at most 1
pub started-few : (on0 : ℕ) (settings : List (List ℕ)) (t : ℕ) {x : ℕ} → x ≡ started_at on0 settings t → x ≤ 1
started-few on0 settings t e = rw e (bit_le (ltb (on_before on0 settings t) (on_at settings t)))

-- the start in interval t, where it counts
abbrev pub counted_start : StartWindow → ℕ → List (List ℕ) → List ℕ → ℕ → ℕ
counted_start w on0 settings starts t = gate (leb w.from (get_or starts t 0) && ltb (get_or starts t 0) w.until) (started_at on0 settings t)

unfoldable pub starts_at : StartWindow → ℕ → List (List ℕ) → List ℕ → ℕ
starts_at w on0 settings starts = sumℕ (counted_start w on0 settings starts) (up_to (length settings))

-- the starts of the day, of which a window's are some
unfoldable pub all_starts : ℕ → List (List ℕ) → ℕ
all_starts on0 settings = sumℕ (started_at on0 settings) (up_to (length settings))

pub some-starts : (w : StartWindow) (on0 : ℕ) (settings : List (List ℕ)) (starts : List ℕ) → starts_at w on0 settings starts ≤ all_starts on0 settings
unfolding starts_at all_starts
some-starts w on0 settings starts = sumℕ-mono (counted_start w on0 settings starts) (started_at on0 settings) (up_to (length settings))
    (all (λ t. gate-le (leb w.from (get_or starts t 0) && ltb (get_or starts t 0) w.until) (started_at on0 settings t) _ (le_refl _)) (up_to (length settings)))

-- the starts of the intervals below t
pub record StartsTo (on0 : ℕ) (settings : List (List ℕ)) (t sum : ℕ) : Type 0 where
  pub total : sum ≡ sumℕ (started_at on0 settings) (up_to t)
  pub few : sum ≤ t

module _ (on0 : ℕ) (settings : List (List ℕ)) where
  pub starts_none : StartsTo on0 settings 0 0
  unfolding range
  starts_none = record { total = refl; few = omega arith }

  pub starts-next : {t sum x : ℕ} → StartsTo on0 settings t sum → x ≡ started_at on0 settings t → StartsTo on0 settings (t + 1) (sum + x)
  starts-next {t} h e = record { total = omega (arith, h.total, sum_more (started_at on0 settings) t); few = omega (arith, h.few, started-few on0 settings t e) }

-- the starts counted so far, where they count
pub record Counted (w : StartWindow) (on0 : ℕ) (settings : List (List ℕ)) (starts : List ℕ) (t sum : ℕ) : Type 0 where
  pub total : sum ≡ sumℕ (counted_start w on0 settings starts) (up_to t)
  pub few : sum ≤ t

module _ (w : StartWindow) (on0 : ℕ) (settings : List (List ℕ)) (starts : List ℕ) where
  pub counted_none : Counted w on0 settings starts 0 0
  unfolding range
  counted_none = record { total = refl; few = omega arith }

  pub counted_next : {t sum x : ℕ} → Counted w on0 settings starts t sum → x ≡ counted_start w on0 settings starts t → x ≤ 1 → Counted w on0 settings starts (t + 1) (sum + x)
  counted_next {t} h e l = record { total = omega (arith, h.total, sum_more (counted_start w on0 settings starts) t); few = omega (arith, h.few) }

-- inside the window, before it, after it
module _ (w : StartWindow) (s n : ℕ) where
  pub inside : w.from ≤ s → s < w.until → n ≡ gate (leb w.from s && ltb s w.until) n
  inside h k = rw (le-leb w.from s h, lt-ltb s w.until k) refl

  pub too-early : s < w.from → 0 ≡ gate (leb w.from s && ltb s w.until) n
  too-early h = rw (lt-leb w.from s h) refl

  pub too-late : w.until ≤ s → 0 ≡ gate (leb w.from s && ltb s w.until) n
  too-late h = rw (le-ltb s w.until h) (go (leb w.from s))
    where
      go : (b : Bool) → 0 ≡ gate (b && false) n
      go true = refl
      go false = refl

-- a device's part of the settings, and the times of its intervals, which rise
pub record Timed (settings : List (List ℕ)) (starts : List ℕ) : Type 0 where
  pub few : length settings ≤ most_intervals
  pub timed : length settings ≤ length starts
  pub rising : (e t : ℕ) → e ≤ t → t < length settings → get_or starts e 0 ≤ get_or starts t 0

-- what the loops over a window's intervals have: the starts below t that count, and interval t does not begin before the window
pub record Reached (w : StartWindow) (on0 : ℕ) (settings : List (List ℕ)) (starts : List ℕ) (t sum : ℕ) : Type 0 where
  pub within : t ≤ length settings
  pub counted : Counted w on0 settings starts t sum
  pub reached : t < length settings → w.from ≤ get_or starts t 0

module _ (w : StartWindow) (on0 : ℕ) (settings : List (List ℕ)) (starts : List ℕ) where
  counted_skip : {t sum : ℕ} → Counted w on0 settings starts t sum → 0 ≡ counted_start w on0 settings starts t → Counted w on0 settings starts (t + 1) sum
  counted_skip {t} h e = record { total = sum-skip (counted_start w on0 settings starts) t h.total (sym e); few = omega (arith, h.few) }

  -- an interval that begins before the window
  pub counted-ahead : {t sum : ℕ} → Counted w on0 settings starts t sum → get_or starts t 0 < w.from → Counted w on0 settings starts (t + 1) sum
  counted-ahead {t} h l = counted_skip h (too-early w (get_or starts t 0) (started_at on0 settings t) l)

  module _ (r : Timed settings starts) where
    -- one inside it
    pub reached-next : {t sum x : ℕ} → t < length settings → Reached w on0 settings starts t sum → get_or starts t 0 < w.until → x ≡ started_at on0 settings t
        → Reached w on0 settings starts (t + 1) (sum + x)
    reached-next {t} l h u e = record {
      within = omega arith;
      counted = counted_next w on0 settings starts h.counted (e ∙ inside w (get_or starts t 0) (started_at on0 settings t) (h.reached l) u) (started-few on0 settings t e);
      reached = λ k. omega (arith, h.reached l, r.rising t (t + 1) (omega arith) k);
    }

    -- the k intervals from one on that begins behind it
    counted-behind : (t k : ℕ) {sum : ℕ} → t + k ≤ length settings → w.until ≤ get_or starts t 0 → Counted w on0 settings starts t sum → Counted w on0 settings starts (t + k) sum
    counted-behind t zero l u h = rw (add-zero t) h
    counted-behind t (suc k) l u h = rw (add-suc t k, ← add-one (t + k)) (counted_skip (counted-behind t k (omega arith) u h)
        (too-late w (get_or starts (t + k) 0) (started_at on0 settings (t + k)) (omega (arith, r.rising t (t + k) (omega arith) (omega arith)))))

    pub counted-end : {t sum : ℕ} → t ≤ length settings → (t < length settings → w.until ≤ get_or starts t 0) → Counted w on0 settings starts t sum → sum ≡ starts_at w on0 settings starts
    unfolding starts_at
    counted-end {t} {sum} l u h = go (dec_le (length settings) t)
      where
        go : Dec (length settings ≤ t) → sum ≡ sumℕ (counted_start w on0 settings starts) (up_to (length settings))
        go (yes x) = let e : t ≡ length settings = omega arith in rw e at h.total
        go (no x) = let e : t + (length settings - t) ≡ length settings = omega arith in
            rw e at (counted-behind t (length settings - t) (omega arith) (u (omega arith)) h).total

module _ {front : Front} {halves : List ℕ} {zones minima devices cells settings : List (List ℕ)} {starts powers : List ℕ}
    (ready : Ready front halves zones minima devices cells settings starts powers) (i : ℕ) (l : i < length devices) where
  abbrev q : System
  q = system_in halves zones minima devices cells

  abbrev p : Plan
  p = plan_in (length devices) (length halves) settings

  abbrev d : Device
  d = device_of (get_or devices i [])

  -- the starts in a window are the model's
  pub starts-are : (w : ℕ) → w < d.nstarts → starts_at (get_or d.starts w no_start) d.on0 (part (length halves) i settings) starts ≡ R.starts_in q p i w
  unfolding starts_at R.starts_in
  starts-are w b =
      let long : length (part (length halves) i settings) ≡ length halves = part-long (length halves) i (length devices) settings l ready.plan-rows.full in
      rw (W.start-window-is halves zones minima devices cells i l w b, W.intervals-are halves zones minima devices cells, long)
      (sum_same _ _ (length halves) (λ t h.
      rw (ready.forced-rows.start t (omega arith), W.started-is halves zones minima devices cells settings t i h l) refl))
