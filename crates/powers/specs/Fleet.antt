-- The forced figures of every device, one device more at a time.
use Rattle.std.specs.Prelude.{◌≡◌, List, [], ◌++◌, ℕ, ◌+◌, ◌-◌, ◌*◌, ◌≤◌, ◌<◌, get_or, length, take, drop}
use Rattle.std.proofs.Common.{◌∙◌, arith}
use Rattle.std.proofs.Math.Decide.{dec_le}
use Rattle.model.specs.Forced as F
use Rattle.row_places.specs.declared.Front.{Front}
use Rattle.row_places.specs.Figures.{device_of}
use Rattle.numbers.specs.Parts.{part, part-long, part-inside, part_cut, place_inside, patched-long, patched-before, patched-row}
use Rattle.records.specs.Views.{system_in, plan_in, most_power, CaseRows, PlanRows, ForcedRows}
use Rattle.records.specs.Ranged.{half-small, device-sized, cell-range, setting-range}
use Rattle.ramped_powers.specs.declared.Ramping.{Ramping}
use Rattle.clock.specs.Times.{Halves, Times, Clock, clock-of}
use Rattle.ramped_powers.specs.Changes.{ramping_of, Rampable, Settled, Powers}
use Rattle.powers.specs.Tied.{start-here, power-here}

-- a decoded case: its front, zones and minima are read by nothing here
pub record CaseOf (halves : List ℕ) (devices cells : List (List ℕ)) : Type 0 where
  pub front : Front
  pub zones : List (List ℕ)
  pub minima : List (List ℕ)
  pub rows : CaseRows front halves zones minima devices cells

module _ (halves : List ℕ) (devices cells settings : List (List ℕ)) where
  abbrev n : ℕ
  n = length devices

  abbrev m : ℕ
  m = length halves

  -- the powers of the devices below j
  pub record ForcedTo (j : ℕ) (powers : List ℕ) : Type 0 where
    pub long : length powers ≡ n * m
    pub power : (zones minima : List (List ℕ)) (t i : ℕ) → t < m → i < j → get_or powers (i * m + t) 0 ≡ F.power (system_in halves zones minima devices cells) (plan_in n m settings) t i
    pub small : (k : ℕ) → k < j * m → get_or powers k 0 ≤ most_power

  -- all of them
  abbrev pub ForcedPowers : List ℕ → Type 0
  ForcedPowers powers = ForcedTo n powers

  -- with the times
  pub record Forced (starts powers : List ℕ) : Type 0 where
    pub rows : (zones minima : List (List ℕ)) → ForcedRows (system_in halves zones minima devices cells) (plan_in n m settings) n m starts powers

  module _ (known : CaseOf halves devices cells) (chosen : PlanRows n m settings) where
    pub halves_small : Halves halves
    halves_small = record { few = known.rows.few-intervals; half = half-small known.rows }

    cells-long : (i : ℕ) → i < n → length (part m i cells) ≡ m
    cells-long i l = part-long m i n cells l known.rows.cells-full

    settings-long : (i : ℕ) → i < n → length (part m i settings) ≡ m
    settings-long i l = part-long m i n settings l chosen.full

    rampable : (i : ℕ) → i < n → Rampable (ramping_of (device_of (get_or devices i []))) (part m i cells)
    rampable i l =
        let d = device-sized known.rows i l in
        record {
          few = omega (arith, cells-long i l, known.rows.few-intervals);
          power_small = d.power0;
          starting-small = d.starting;
          stopping-small = d.stopping;
          pmin-small = λ t h. (cell-range known.rows i l t (omega (arith, cells-long i l))).pmin;
        }

    settled : (i : ℕ) → i < n → Settled (part m i cells) (part m i settings)
    settled i l = record {
      same = omega (arith, cells-long i l, settings-long i l);
      online-small = λ t h. (setting-range chosen i t l (omega (arith, cells-long i l))).online;
    }

    forced-next : (starts : List ℕ) → Times halves starts → {i : ℕ} {powers row : List ℕ} → i < n → ForcedTo i powers
        → Powers (ramping_of (device_of (get_or devices i []))) (part m i cells) (part m i settings) starts row
        → ForcedTo (i + 1) (take (i * m) powers ++ (row ++ drop m (drop (i * m) powers)))
    forced-next starts clock {i} {powers} {row} l f r = record {
      long = patched-long 0 powers row a w wide inside ∙ f.long;
      power = λ zones minima t j h b. power zones minima t j h b (dec_le i j);
      small = λ k b. small k b (dec_le a k);
    }
      where
        w : ℕ
        w = length halves

        a : ℕ
        a = i * length halves

        wide : length row ≡ w
        wide = r.long ∙ cells-long i l

        inside : a + w ≤ length powers
        inside = omega (arith, part-inside w i n l, f.long)

        new : List ℕ
        new = take a powers ++ (row ++ drop w (drop a powers))

        here : (t : ℕ) → t < w → get_or new (a + t) 0 ≡ get_or row t 0
        here t h = patched-row 0 powers row a w wide inside t h

        ahead : (k : ℕ) → k < a → get_or new k 0 ≡ get_or powers k 0
        ahead k b = patched-before 0 powers row a w wide inside k b

        power : (zones minima : List (List ℕ)) (t j : ℕ) → t < w → j < i + 1 → Dec (i ≤ j) → get_or new (j * w + t) 0 ≡ F.power (system_in halves zones minima devices cells) (plan_in n m settings) t j
        power zones minima t j h b (yes x) =
            let e : j ≡ i = omega arith in
            rw e (here t h ∙ r.number t (omega (arith, cells-long i l)) ∙ power-here halves zones minima devices cells settings i l starts clock t h (cells-long i l))
        power zones minima t j h b (no x) = ahead (j * w + t) (place_inside w j i t (omega arith) h) ∙ f.power zones minima t j h (omega arith)

        small : (k : ℕ) → k < (i + 1) * w → Dec (a ≤ k) → get_or new k 0 ≤ most_power
        small k b (yes x) = let z : a + (k - a) ≡ k = omega arith in rw (← z, here (k - a) (omega arith)) (r.small (k - a))
        small k b (no x) = rw (ahead k (omega arith)) (f.small k (omega arith))

    -- the same for what the code hands over: the figures and the parts by their equations
    module _ (i a : ℕ) (l : i < n) (e : a ≡ i * m) {x : Ramping} (r : x ≡ ramping_of (device_of (get_or devices i []))) where
      pub rampable-at : Rampable x (take (a + m - a) (drop a cells))
      rampable-at = rw (r, part_cut m i a cells e) (rampable i l)

      pub settled_at : Settled (take (a + m - a) (drop a cells)) (take (a + m - a) (drop a settings))
      settled_at = rw (part_cut m i a cells e, part_cut m i a settings e) (settled i l)

      pub cells_at : length (take (a + m - a) (drop a cells)) ≡ m
      cells_at = rw (part_cut m i a cells e) (cells-long i l)

      pub clock-at : {starts : List ℕ} → Times halves starts → Clock (length (take (a + m - a) (drop a cells))) starts
      clock-at c = rw cells_at (clock-of halves halves_small c)

      pub forced-step : (starts powers row : List ℕ) → Times halves starts → ForcedTo i powers
          → Powers x (take (a + m - a) (drop a cells)) (take (a + m - a) (drop a settings)) starts row
          → ForcedTo (i + 1) (take a powers ++ (row ++ drop (a + m - a) (drop a powers)))
      forced-step starts powers row clock f h =
          let w : a + m - a ≡ m = omega arith in
          let k : Powers (ramping_of (device_of (get_or devices i []))) (part m i cells) (part m i settings) starts row = rw (← r, ← part_cut m i a cells e, ← part_cut m i a settings e) h in
          rw (w, e) (forced-next starts clock l f k)

    pub forced-both : {starts powers : List ℕ} → Times halves starts → ForcedPowers powers → Forced starts powers
    forced-both {starts} {powers} c f = record {
      rows = λ zones minima. record {
        starts-full = omega (arith, c.long);
        powers-full = f.long;
        start = λ t h. c.start t h ∙ start-here halves zones minima devices cells settings t;
        early = λ t h. (clock-of halves halves_small c).early t;
        power-is = f.power zones minima;
        small = λ k h. f.small k (omega (arith, f.long));
      };
    }
