-- The reactive figures of the settings in one interval.
use Rattle.std.specs.Prelude.{◌≡◌, List, ℕ, ◌+◌, ◌*◌, ◌≤◌, ◌<◌, length}
use Rattle.std.proofs.Common.{arith, mul-le-mul}
use Rattle.ranges.specs.Kept.{kept_small}
use Rattle.kilovars.specs.Reactive.{kvar_offset}
use Rattle.row_places.specs.declared.Front.{Front}
use Rattle.row_places.specs.Figures.{reactive_at}
use Rattle.numbers.specs.Parts.{place_inside}
use Rattle.records.specs.Views.{most_devices, most_intervals, Ready}

-- "q (as qmax) and two reactive reserves" at place k, q as it is kept
pub record Small (settings : List (List ℕ)) (k : ℕ) : Type 0 where
  pub q : (reactive_at settings k).q.0 ≤ 200000
  pub qru : (reactive_at settings k).qru.0 ≤ 100000
  pub qrd : (reactive_at settings k).qrd.0 ≤ 100000

-- interval t of m, and the settings of n devices in m intervals
pub record Settled (n m t : ℕ) (settings : List (List ℕ)) : Type 0 where
  pub few-devices : n ≤ most_devices
  pub few-intervals : m ≤ most_intervals
  pub interval : t < m
  pub full : length settings ≡ n * m
  pub small : (k : ℕ) → k < length settings → Small settings k

pub settled : {front : Front} {halves : List ℕ} {zones minima devices cells settings : List (List ℕ)} {starts powers : List ℕ}
    → Ready front halves zones minima devices cells settings starts powers → (t : ℕ) → t < length halves → Settled (length devices) (length halves) t settings
settled r t h = record {
  few-devices = r.case_rows.few-devices;
  few-intervals = r.case_rows.few-intervals;
  interval = h;
  full = r.plan-rows.full;
  small = λ k l. let x = (r.plan-rows.range k l).reactive in record { q = kept_small kvar_offset _ x.q; qru = x.qru; qrd = x.qrd };
}

-- the place of device i in interval t is within the table, and the next place is small
pub record Place (m k : ℕ) (settings : List (List ℕ)) : Type 0 where
  pub inside : k < length settings
  pub next : k + m ≤ 6240
  pub small : Small settings k

pub place : {n m t : ℕ} {settings : List (List ℕ)} → Settled n m t settings → (i k : ℕ) → i < n → k ≡ i * m + t → Place m k settings
place {n} {m} {t} {settings} s i k l e =
    let b : k < length settings = omega (arith, place_inside m i n t l s.interval, s.full) in
    record {
      inside = b;
      next = omega (arith, place_inside m i n t l s.interval, mul-le-mul s.few-devices s.few-intervals, s.few-intervals);
      small = s.small k b;
    }
