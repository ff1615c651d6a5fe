-- The bracket of a device's parts, and their power, are the model's.
use Rattle.std.specs.Prelude.{◌≡◌, List, [], ℕ, suc, ◌≤◌, ◌<◌, ltb, get_or, length}
use Rattle.std.proofs.Math.Path.{refl, ap}
use Rattle.std.proofs.Common.{arith}
use Rattle.std.proofs.Math.Decide.{dec_le}
use Rattle.std.proofs.Math.ListN.{get_or-eq_default}
use Rattle.numbers.specs.Sum.{sumℕ}
use Rattle.numbers.specs.Base.{up_to, bit}
use Rattle.numbers.specs.Parts.{part, part-long}
use Rattle.numbers.specs.Ranges.{sum_same}
use Rattle.model.specs.Case.{System, Plan}
use Rattle.model.specs.Forced as F
use Rattle.row_places.specs.declared.Device.{Device}
use Rattle.row_places.specs.declared.Front.{Front}
use Rattle.row_places.specs.Figures.{device_of}
use Rattle.records.specs.Views.{system_in, plan_in, last_minute, Ready}
use Rattle.records.specs.Viewed as W
use Rattle.records.specs.Ranged as G
use Rattle.clock.specs.Times.{Clock}
use Rattle.trajectories.specs.Terms.{start-term, stop-term}
use Rattle.ramped_powers.specs.Changes.{ramping_of, Rampable}
use Rattle.brackets.specs.Counts.{start_power, stop_power, starts_above, stops_above, bracket_at, power_at, Countable}

module _ {front : Front} {halves : List ℕ} {zones minima devices cells settings : List (List ℕ)} {starts powers : List ℕ}
    (ready : Ready front halves zones minima devices cells settings starts powers) (i : ℕ) (l : i < length devices) where
  abbrev q : System
  q = system_in halves zones minima devices cells

  abbrev p : Plan
  p = plan_in (length devices) (length halves) settings

  abbrev d : Device
  d = device_of (get_or devices i [])

  abbrev own_cells : List (List ℕ)
  own_cells = part (length halves) i cells

  abbrev own_settings : List (List ℕ)
  own_settings = part (length halves) i settings

  cells-long : length own_cells ≡ length halves
  cells-long = part-long (length halves) i (length devices) cells l ready.case_rows.cells-full

  settings-long : length own_settings ≡ length halves
  settings-long = part-long (length halves) i (length devices) settings l ready.plan-rows.full

  rampable : Rampable (ramping_of d) own_cells
  rampable =
      let z = G.device-sized ready.case_rows i l in
      record {
        few = omega (arith, cells-long, ready.case_rows.few-intervals);
        power_small = z.power0;
        starting-small = z.starting;
        stopping-small = z.stopping;
        pmin-small = λ t h. (G.cell-range ready.case_rows i l t (omega (arith, cells-long))).pmin;
      }

  clock-here : Clock (length own_cells) starts
  clock-here = record {
    long = omega (arith, cells-long, ready.forced-rows.starts-full);
    early = λ k. early k (dec_le k (length halves));
    rising = λ a b m k. G.start-order ready a b m (omega (arith, cells-long));
  }
    where
      early : (k : ℕ) → Dec (k ≤ length halves) → get_or starts k 0 ≤ last_minute
      early k (yes x) = ready.forced-rows.early k x
      early k (no x) = let m : length starts ≤ k = omega (arith, ready.forced-rows.starts-full) in rw (get_or-eq_default starts 0 m) (omega arith)

  pub countable-here : Countable (ramping_of d) own_cells own_settings starts
  countable-here = record {
    rampable = rampable;
    same = omega (arith, cells-long, settings-long);
    on = λ t h. (G.setting-range ready.plan-rows i t l (omega (arith, cells-long))).on;
    clock = clock-here;
  }

  module _ (t : ℕ) (h : t < length halves) where
    start_is : (e : ℕ) → e < length halves → start_power (ramping_of d) own_cells own_settings starts t e ≡ F.start_term q p t i e
    start_is e b = start-term halves zones minima devices cells settings i l starts ready.forced-rows.start t e h b cells-long

    stop_is : (e : ℕ) → e < suc t → stop_power (ramping_of d) own_cells own_settings starts t e ≡ F.stop_term q p t i e
    stop_is e b = stop-term halves zones minima devices cells settings i l starts ready.forced-rows.start t e h (omega arith) cells-long

    starts-are : starts_above (ramping_of d) own_cells own_settings starts t ≡ sumℕ (λ e. bit (ltb 0 (F.start_term q p t i e))) (up_to (F.intervals q))
    unfolding starts_above
    starts-are = rw (cells-long, W.intervals-are halves zones minima devices cells) (sum_same _ _ (length halves) (λ e b. ap (λ (x : ℕ). bit (ltb 0 x)) (start_is e b)))

    stops-are : stops_above (ramping_of d) own_cells own_settings starts t ≡ sumℕ (λ e. bit (ltb 0 (F.stop_term q p t i e))) (up_to (suc t))
    unfolding stops_above
    stops-are = sum_same _ _ (suc t) (λ e b. ap (λ (x : ℕ). bit (ltb 0 x)) (stop_is e b))

    -- n of the parts
    pub bracket-here : bracket_at (ramping_of d) own_cells own_settings starts t ≡ F.bracket q p t i
    unfolding bracket_at F.bracket
    bracket-here = rw (starts-are, stops-are, W.on-is (length devices) (length halves) settings q t i h l) refl

    rising-is : sumℕ (start_power (ramping_of d) own_cells own_settings starts t) (up_to (length own_cells)) ≡ F.psu q p t i
    unfolding F.psu
    rising-is = rw (cells-long, W.intervals-are halves zones minima devices cells) (sum_same _ _ (length halves) start_is)

    falling-is : sumℕ (stop_power (ramping_of d) own_cells own_settings starts t) (up_to (suc t)) ≡ F.psd q p t i
    unfolding F.psd
    falling-is = sum_same _ _ (suc t) stop_is

    -- p of the parts
    pub power-here : power_at (ramping_of d) own_cells own_settings starts t ≡ F.power q p t i
    unfolding power_at F.power
    power-here = rw (rising-is, falling-is, W.setting-is (length devices) (length halves) settings q t i h l) refl
