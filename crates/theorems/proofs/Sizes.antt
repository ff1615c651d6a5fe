-- The sizes of our completion: each figure fits its field, for a case and a plan within their ranges that break no rule.
use Rattle.std.specs.Prelude.{◌≡◌, refl, Bool, ◌&&◌, List, map, ltb, eqb, get_or, neg_ℤ, ◌+ℤ◌, ◌-ℤ◌, ◌*ℤ◌}
use Rattle.std.proofs.Common.{sym}
use Rattle.std.proofs.Math.Bool.{true, false, not}
use Prim.Native.Nat.{ℕ, zero, suc, ◌+◌, ◌-◌, ◌*◌, ◌^◌, ◌≤◌, ◌<◌}
use native.Mathlib.Omega.{arith}
use Rattle.std.proofs.Math.Nat.{mul-le-mul}
use Rattle.std.proofs.Math.Dec.{T}
use Rattle.std.proofs.Math.ListN.{length, length-map}
use Rattle.std.proofs.Math.IntN.{ℤ, pos, nat_abs}
use Rattle.numbers.specs.Laws.{max_zero, above-is}
use Rattle.numbers.specs.Sum.{All, all, sumℤ, sum-sub}
use Rattle.numbers.specs.Bounds.{bound-sub, bound-add, bound-mul, bound-sum, bound-few, apart-is, abs_neg}
use Rattle.numbers.specs.State.{best, best-is}
use Rattle.bits.specs.Pick.{pick}
use Rattle.numbers.specs.Base.{range, up_to}
use Rattle.model.specs.Case.{System, Plan, Case, no_zone, Minima, no_minima, no_energy_window, no_kinds, no_reactive_reserves, no_flow}
use Rattle.layouts.specs.Since.{has, Where}
use Rattle.model.specs.Messages.{no_bars}
use Rattle.ranges.specs.Plain.{SystemPlain, PlanPlain}
use Rattle.theorems.specs.Plain.{none-short, none_apart}
use Rattle.ranges.specs.Barless.{SystemBarless, PlanBarless}
use Rattle.theorems.specs.Barless.{Lacks, other-bar, other-bar-reactive}
use Rattle.model.specs.Forced.{intervals, devices, zones, device, cell, zone, cap, energy_window, consuming, on_bar, member, duration, end_of}
use Rattle.model.specs.Forced.{setting, flow, u, least, u_before, su, sd, psu, psd, power}
use Rattle.model.specs.Rules.{blocks, EveryRule}
use Rattle.model.proofs.Named.{rule16-holds, rule18-holds}
use Rattle.model.specs.Completion as C
use Rattle.model.specs.Ours.{filling_above, best_state, lasts, ours, whole}
use Rattle.ranges.specs.Ranges.{SystemRange, DeviceRange, EnergyRange, CellRange, ZoneRange, MinimaRange, PlanRange, SettingRange}
use Rattle.numbers.specs.Every.{all-at, all-or, all_get_d, all-gather, length-range, largest-bound, gate-le, bit_le, map-of-all, all-range, all-up_to}
use Rattle.numbers.specs.Gather.{gather-counted}
use Rattle.numbers.specs.Ranges.{sum-few}
use Rattle.theorems.specs.Best.{above-cap}
use Rattle.model.specs.Editions.{small_widths, most_devices, most_intervals, most_zones, most_states, most_windows}
use Rattle.model.specs.Judgement.{written, counts_of, energy_windows, our_surplus}
use Rattle.layouts.specs.Trip.{Fits}
use Rattle.theorems.specs.Back.{FitsTwo, FitsKinds, FitsDevice, FitsBars, FitsInterval, FitsWritten}
use Rattle.theorems.specs.Sizes.{PriceRange, bar_count, block-in, cell-in, device-in, floored, most_block_worth, most_blocks, most_change, most_changes, most_energy, most_flow, most_minutes, most_mismatch, most_mismatch_cost, most_on_cost, most_on_costs, most_overrun, most_power, most_price, most_reactive_costs, most_reactive_reserves, most_reactive_shortfall, most_reactive_shortfall_cost, most_real_surplus, most_reserves, most_share, most_shortfall, most_shortfall_cost, most_shortfall_price, most_surplus, most_total, q, reactive_kinds, reserve_kinds, setting-in, shortfall_kinds, surplus_limit}

-- "over any device and interval count up to these": 7.7·10^17 at 64 and 96; 3.61·10^17 at 16 and 48
pub most-surplus : most_surplus most_devices most_intervals < surplus_limit
most-surplus = omega arith

most-small-surplus : most_surplus small_widths.device_limit small_widths.interval_limit < surplus_limit
most-small-surplus = omega arith

-- one of u and 1 − u is 0
shared : (m v a b : ℕ) → v ≤ 1 → a ≤ m * v → b ≤ m * (1 - v) → a + b ≤ m
shared m zero a b l h i = omega arith
shared m (suc zero) a b l h i = omega arith
shared m (suc (suc v)) a b l h i = absurd (omega arith)

minima-get : (l : List Minima) → All MinimaRange l → (k : ℕ) → MinimaRange (get_or l k no_minima)
minima-get l h k = all-or MinimaRange no_minima (record { rru = omega arith; rrd = omega arith; reactive = omega arith }) l h k

module _ (q : System) (p : Plan) (rq : SystemRange q) (rp : PlanRange q p) (ok : EveryRule q p) where
  pub device-at : (i : ℕ) → i < devices q → DeviceRange (intervals q) (device q i)
  device-at i l = device-in q p rq rp i l

  pub cell_at : (t i : ℕ) → t < intervals q → i < devices q → CellRange (cell q t i)
  cell_at t i l m = cell-in q p rq rp t i l m

  pub setting-at : (t i : ℕ) → t < intervals q → i < devices q → SettingRange (setting q p t i)
  setting-at t i l m = setting-in q p rq rp t i l m

  rule16-most : (t i : ℕ) → t < intervals q → i < devices q → (setting q p t i).online ≤ (cell q t i).pmax * u q p t i
  rule16-most t i l m = omega (arith, rule16-holds q p ok t i l m)

  rule18-most : (t i : ℕ) → t < intervals q → i < devices q → psu q p t i + psd q p t i ≤ (cell q t i).pmax * (1 - u q p t i)
  rule18-most t i l m = omega (arith, rule18-holds q p ok t i l m)

  pub power-bound : (t i : ℕ) → t < intervals q → i < devices q → power q p t i ≤ most_power
  unfolding power u
  power-bound t i l m =
      let h = shared (cell q t i).pmax (setting q p t i).on (setting q p t i).online (psu q p t i + psd q p t i) (setting-at t i l m).on (rule16-most t i l m) (rule18-most t i l m) in
      omega (arith, h, (cell_at t i l m).pmax)

  pub unit-bound : (t z : ℕ) → t < intervals q → C.largest_unit q p t z ≤ most_power
  unfolding C.largest_unit
  unit-bound t z l = largest-bound _ most_power (up_to (devices q)) (all-up_to _ _ (λ i m. gate-le (member q z i && not (consuming q i)) (power q p t i) most_power (power-bound t i l m)))

  pub zone-at : (z : ℕ) → z < zones q → ZoneRange (zone q z)
  zone-at z m = all-at ZoneRange no_zone q.zones rq.each_zone z m

  pub duration-bound : (t : ℕ) → duration q t ≤ most_minutes
  unfolding duration
  duration-bound t = omega (arith, all_get_d 180 q.halves rq.halves t)

  pub minutes-bound : (from until t : ℕ) → C.minutes_in q p from until t ≤ most_minutes
  unfolding C.minutes_in end_of
  minutes-bound from until t = omega (arith, duration-bound t)

  pub flow-bound : (t : ℕ) → nat_abs (flow q p t) ≤ most_flow
  flow-bound t = all-or (λ z. nat_abs z ≤ most_flow) no_flow (omega arith) p.flows rp.flows t

  leaving-bound : (t b : ℕ) → nat_abs (C.leaving q p t b) ≤ most_flow
  leaving-bound t b = go (eqb b 0)
    where
      go : (s : Bool) → nat_abs (pick s (flow q p t) (neg_ℤ (flow q p t))) ≤ most_flow
      go true = flow-bound t
      go false = omega (arith, abs_neg (flow q p t), flow-bound t)

  -- ---- at most n devices
  module _ (n : ℕ) (few : devices q ≤ n) where
    pub load-bound : (t z : ℕ) → t < intervals q → C.load q p t z ≤ most_total n
    unfolding C.load
    load-bound t z l = sum-few _ most_power (devices q) n few (λ i m. gate-le (member q z i && consuming q i) (power q p t i) most_power (power-bound t i l m))

    pub total-bound : (s : Bool) (t b : ℕ) → t < intervals q → C.total q p s t b ≤ most_total n
    unfolding C.total
    total-bound true t b l = sum-few _ most_power (devices q) n few (λ i m. gate-le (on_bar q b i && consuming q i) (power q p t i) most_power (power-bound t i l m))
    total-bound false t b l = sum-few _ most_power (devices q) n few (λ i m. gate-le (on_bar q b i && not (consuming q i)) (power q p t i) most_power (power-bound t i l m))

    pub mismatch-bound : (t b : ℕ) → t < intervals q → C.mismatch_need q p t b ≤ most_mismatch n
    unfolding C.mismatch_need
    mismatch-bound t b l = bound-add (pos (C.total q p true t b) -ℤ pos (C.total q p false t b)) (C.leaving q p t b) (most_total n) most_flow
        (omega (arith, apart-is (C.total q p true t b) (C.total q p false t b), total-bound true t b l, total-bound false t b l)) (leaving-bound t b)

    -- the reactive power of both sides together, and so their difference
    pub reactive-mismatch-bound : (t b : ℕ) → t < intervals q → C.reactive_mismatch_need q p t b ≤ most_total n
    unfolding C.reactive_mismatch_need C.reactive_total
    reactive-mismatch-bound t b l = rw (sym (sum-sub f g (up_to (devices q))))
        (bound-few (λ i. f i -ℤ g i) most_power (devices q) n few (λ i m. go i (on_bar q b i) (consuming q i) (setting-at t i l m).reactive.q))
      where
        f : ℕ → ℤ
        f i = pick (on_bar q b i && consuming q i) (setting q p t i).reactive.q (pos 0)

        g : ℕ → ℤ
        g i = pick (on_bar q b i && not (consuming q i)) (setting q p t i).reactive.q (pos 0)

        go : (i : ℕ) (on s : Bool) → nat_abs (setting q p t i).reactive.q ≤ most_power
            → nat_abs (pick (on && s) (setting q p t i).reactive.q (pos 0) -ℤ pick (on && not s) (setting q p t i).reactive.q (pos 0)) ≤ most_power
        go i true true h = omega (arith, bound-sub (setting q p t i).reactive.q (pos 0) most_power 0 h (omega arith))
        go i true false h = omega (arith, bound-sub (pos 0) (setting q p t i).reactive.q 0 most_power (omega arith) h)
        go i false true h = omega arith
        go i false false h = omega arith

    share-bound : (share t z : ℕ) → share ≤ most_share → t < intervals q → share * C.load q p t z ≤ most_share * most_total n
    share-bound share t z h l = mul-le-mul h (load-bound t z l)

    unit-share : (share t z : ℕ) → share ≤ most_share → t < intervals q → share * C.largest_unit q p t z ≤ most_share * most_power
    unit-share share t z h l = mul-le-mul h (unit-bound t z l)

    pub required-bound : (t z : ℕ) (k : C.Shortfall) → t < intervals q → z < zones q → C.required q p t z k ≤ most_shortfall n
    unfolding C.required
    required-bound t z C.rgu l m = let s = (zone-at z m).shares in omega (arith, share-bound _ t z s.rgu l)
    required-bound t z C.rgd l m = let s = (zone-at z m).shares in omega (arith, share-bound _ t z s.rgd l)
    required-bound t z C.scr l m = let s = (zone-at z m).shares in omega (arith, share-bound _ t z s.rgu l, unit-share _ t z s.scr l)
    required-bound t z C.nsc l m = let s = (zone-at z m).shares in omega (arith, share-bound _ t z s.rgu l, unit-share _ t z s.scr l, unit-share _ t z s.nsc l)
    required-bound t z C.rru l m = omega (arith, (minima-get (zone q z).minima (zone-at z m).minima t).rru)
    required-bound t z C.rrd l m = omega (arith, (minima-get (zone q z).minima (zone-at z m).minima t).rrd)

    pub shortfall-bound : (t z : ℕ) (k : C.Shortfall) → t < intervals q → z < zones q → max_zero (C.shortfall_need q p t z k) ≤ most_shortfall n
    unfolding C.shortfall_need
    shortfall-bound t z k l m = omega (arith, above-is (C.required q p t z k) (1000 * C.held q p t z k), required-bound t z k l m)

  reactive-required : (t z : ℕ) (k : C.ReactiveShortfall) → z < zones q → C.reactive_required q p t z k ≤ most_reactive_shortfall
  unfolding C.reactive_required
  reactive-required t z C.qru m = omega (arith, (minima-get (zone q z).minima (zone-at z m).minima t).reactive.qru)
  reactive-required t z C.qrd m = omega (arith, (minima-get (zone q z).minima (zone-at z m).minima t).reactive.qrd)

  pub reactive-shortfall-bound : (t z : ℕ) (k : C.ReactiveShortfall) → z < zones q → max_zero (C.reactive_need q p t z k) ≤ most_reactive_shortfall
  unfolding C.reactive_need
  reactive-shortfall-bound t z k m = omega (arith, above-is (C.reactive_required q p t z k) (1000 * C.reactive_held q p t z k), reactive-required t z k m)

  -- ---- at most m intervals
  module _ (m : ℕ) (short : intervals q ≤ m) where
    pub energy-bound : (i w : ℕ) → i < devices q → C.energy_in q p i w ≤ m * (most_minutes * most_power)
    unfolding C.energy_in
    energy-bound i w d = sum-few _ (most_minutes * most_power) (intervals q) m short (λ t l. mul-le-mul (minutes-bound _ _ t) (power-bound t i l d))

    pub overrun-bound : (i w : ℕ) → i < devices q → max_zero (C.overrun_need q p i w) ≤ most_overrun m
    unfolding C.overrun_need
    overrun-bound i w d = go (eqb (energy_window q i w).kind 0)
      where
        limit : (energy_window q i w).energy ≤ most_energy
        limit = (all-or EnergyRange no_energy_window (record { kind = omega arith; from = omega arith; until = omega arith; energy = omega arith })
            (device q i).energy_windows (device-at i d).energy w).energy

        go : (b : Bool) → max_zero (pick b (pos (C.energy_in q p i w) -ℤ pos (energy_window q i w).energy) (pos (energy_window q i w).energy -ℤ pos (C.energy_in q p i w))) ≤ most_overrun m
        go true = omega (arith, above-is (C.energy_in q p i w) (energy_window q i w).energy, energy-bound i w d)
        go false = omega (arith, above-is (energy_window q i w).energy (C.energy_in q p i w), limit)

-- ---- our completion fits its message
module _ (c : Case) (p : Plan) (rq : SystemRange c.system) (rp : PlanRange c.system p) (ok : EveryRule c.system p) where
  pub state-bound : (t i : ℕ) → i < devices (q c p rq rp ok) → best_state c p t i ≤ most_states
  unfolding best_state
  state-bound t i m = go (eqb (su (q c p rq rp ok) p t i) 1)
    where
      go : (b : Bool) → pick b (best (λ n. C.state_cost c i (pos n)) (lasts (q c p rq rp ok) p t i) 0 (range 1 (length (device (q c p rq rp ok) i).longest))) 0 ≤ most_states
      go true = best-is (λ n. C.state_cost c i (pos n)) (lasts (q c p rq rp ok) p t i) (λ n. n ≤ most_states) 0 (range 1 (length (device (q c p rq rp ok) i).longest)) (omega arith)
          (all-range (λ k. T (lasts (q c p rq rp ok) p t i k) → k ≤ most_states) 1 _ (λ k a b h. omega (arith, (device-at (q c p rq rp ok) p rq rp ok i m).states)))
      go false = omega arith

  pub block-bound : (t i k : ℕ) → t < intervals (q c p rq rp ok) → i < devices (q c p rq rp ok) → k < 4 → filling_above (consuming (q c p rq rp ok) i) (C.block_price c t i) (least (q c p rq rp ok) p t i) (cap (q c p rq rp ok) t i) (power (q c p rq rp ok) p t i) k ≤ most_power
  block-bound t i k l m h = omega (
    arith,
    above-cap (C.block_price c t i) (least (q c p rq rp ok) p t i) (cap (q c p rq rp ok) t i) (power (q c p rq rp ok) p t i) (floored (q c p rq rp ok) p rq rp t i l m) (consuming (q c p rq rp ok) i) k h,
    (block-in (q c p rq rp ok) p rq rp t i k l m).cap,
  )

  block-fits : (t i k : ℕ) → t < intervals (q c p rq rp ok) → i < devices (q c p rq rp ok) → k < 4 → filling_above (consuming (q c p rq rp ok) i) (C.block_price c t i) (least (q c p rq rp ok) p t i) (cap (q c p rq rp ok) t i) (power (q c p rq rp ok) p t i) k ≤ 2 ^ 17 - 1
  block-fits t i k l m h = omega (arith, block-bound t i k l m h)

  pub device-fits : (t i : ℕ) → t < intervals (q c p rq rp ok) → i < devices (q c p rq rp ok)
      → FitsDevice (record {
        started = su (q c p rq rp ok) p t i;
        stopped = sd (q c p rq rp ok) p t i;
        state = best_state c p t i;
        blocks = map (filling_above (consuming (q c p rq rp ok) i) (C.block_price c t i) (least (q c p rq rp ok) p t i) (cap (q c p rq rp ok) t i) (power (q c p rq rp ok) p t i)) blocks;
      })
  unfolding su sd range
  device-fits t i l m = record {
    started = bit_le (ltb (u_before (q c p rq rp ok) p t i) (u (q c p rq rp ok) p t i));
    stopped = bit_le (ltb (u (q c p rq rp ok) p t i) (u_before (q c p rq rp ok) p t i));
    state = omega (arith, state-bound t i m);
    four = refl;
    blocks = (block-fits t i 0 l m (omega arith), (block-fits t i 1 l m (omega arith), (block-fits t i 2 l m (omega arith), (block-fits t i 3 l m (omega arith), tt))));
  }

  shortfall-fits : (t z : ℕ) (k : C.Shortfall) → t < intervals (q c p rq rp ok) → z < zones (q c p rq rp ok) → max_zero (C.shortfall_need (q c p rq rp ok) p t z k) ≤ 2 ^ 33 - 1
  shortfall-fits t z k l m = omega (arith, shortfall-bound (q c p rq rp ok) p rq rp ok most_devices rq.devices t z k l m)

  overrun-fits : (i w : ℕ) → i < devices (q c p rq rp ok) → max_zero (C.overrun_need (q c p rq rp ok) p i w) ≤ 2 ^ 32 - 1
  overrun-fits i w m = omega (arith, overrun-bound (q c p rq rp ok) p rq rp ok most_intervals rq.intervals i w m)

  -- in edition e, where an edition that lacks reactive power knows none, and one that lacks busbars has one
  module _ (e : ℕ) (lacks : Lacks e (q c p rq rp ok) p) where
    two-fit : (t z : ℕ) → z < zones (q c p rq rp ok)
        → Where (has 2 e) no_reactive_reserves FitsTwo (record { qru = max_zero (C.reactive_need (q c p rq rp ok) p t z C.qru); qrd = max_zero (C.reactive_need (q c p rq rp ok) p t z C.qrd) })
    two-fit t z m = go (has 2 e) lacks.plain
      where
        go : (b : Bool) → (b ≡ false → SystemPlain (q c p rq rp ok) × PlanPlain p)
            → Where b no_reactive_reserves FitsTwo (record { qru = max_zero (C.reactive_need (q c p rq rp ok) p t z C.qru); qrd = max_zero (C.reactive_need (q c p rq rp ok) p t z C.qrd) })
        go true h = record {
          qru = omega (arith, reactive-shortfall-bound (q c p rq rp ok) p rq rp ok t z C.qru m);
          qrd = omega (arith, reactive-shortfall-bound (q c p rq rp ok) p rq rp ok t z C.qrd m);
        }
        go false h = let s = h refl in rw (none-short (q c p rq rp ok) p s.0 s.1 t z C.qru, none-short (q c p rq rp ok) p s.0 s.1 t z C.qrd) refl

    -- bar 1's, which an edition that has one bar lacks
    second_fits : (t : ℕ) (f : ℕ) → f ≤ 2 ^ 23 - 1 → (SystemBarless (q c p rq rp ok) → PlanBarless p → f ≡ 0) → Where (has 5 e) 0 (λ v. v ≤ 2 ^ 23 - 1) f
    second_fits t f h k = go (has 5 e) lacks.barless
      where
        go : (b : Bool) → (b ≡ false → SystemBarless (q c p rq rp ok) × PlanBarless p) → Where b 0 (λ v. v ≤ 2 ^ 23 - 1) f
        go true s = h
        go false s = let r = s refl in k r.0 r.1

    mismatch-fits : (t b : ℕ) → t < intervals (q c p rq rp ok) → C.mismatch_need (q c p rq rp ok) p t b ≤ 2 ^ 23 - 1
    mismatch-fits t b l = omega (arith, mismatch-bound (q c p rq rp ok) p rq rp ok most_devices rq.devices t b l)

    reactive-fits : (t b : ℕ) → t < intervals (q c p rq rp ok) → C.reactive_mismatch_need (q c p rq rp ok) p t b ≤ 2 ^ 23 - 1
    reactive-fits t b l = omega (arith, reactive-mismatch-bound (q c p rq rp ok) p rq rp ok most_devices rq.devices t b l)

    bars-fit : (t : ℕ) → t < intervals (q c p rq rp ok) → FitsBars e (record { first = C.mismatch_need (q c p rq rp ok) p t 0; second = C.mismatch_need (q c p rq rp ok) p t 1 })
    bars-fit t l = record { first = mismatch-fits t 0 l; second = second_fits t _ (mismatch-fits t 1 l) (λ s r. other-bar (q c p rq rp ok) p s r t 0) }

    apart_fits : (t : ℕ) → t < intervals (q c p rq rp ok) → Where (has 2 e) no_bars (FitsBars e) (record { first = C.reactive_mismatch_need (q c p rq rp ok) p t 0; second = C.reactive_mismatch_need (q c p rq rp ok) p t 1 })
    apart_fits t l = go (has 2 e) lacks.plain
      where
        go : (b : Bool) → (b ≡ false → SystemPlain (q c p rq rp ok) × PlanPlain p) → Where b no_bars (FitsBars e) (record { first = C.reactive_mismatch_need (q c p rq rp ok) p t 0; second = C.reactive_mismatch_need (q c p rq rp ok) p t 1 })
        go true h = record { first = reactive-fits t 0 l; second = second_fits t _ (reactive-fits t 1 l) (λ s r. other-bar-reactive (q c p rq rp ok) p s r t 0) }
        go false h = let s = h refl in rw (none_apart (q c p rq rp ok) p s.0 s.1 t 0, none_apart (q c p rq rp ok) p s.0 s.1 t 1) refl

  -- all but the surplus
  pub fits : (e : ℕ) → Lacks e (q c p rq rp ok) p → Fits 64 (our_surplus c p) → nat_abs (our_surplus c p) ≤ 2 ^ 63
      → FitsWritten e (counts_of (q c p rq rp ok)) (energy_windows (q c p rq rp ok)) (written (q c p rq rp ok) (ours c p) (our_surplus c p))
  unfolding written ours energy_windows
  fits e plain f s = record {
    length = rw length-map (length-range 0 (intervals (q c p rq rp ok)));
    each = map-of-all (FitsInterval e (counts_of (q c p rq rp ok))) _ (up_to (intervals (q c p rq rp ok))) (all-up_to _ _ (λ t l. record {
      each = rw length-map (length-range 0 (devices (q c p rq rp ok)));
      devices = map-of-all FitsDevice _ (up_to (devices (q c p rq rp ok))) (all-up_to _ _ (λ i m. device-fits t i l m));
      every = rw length-map (length-range 0 (zones (q c p rq rp ok)));
      zones = map-of-all (FitsKinds e) _ (up_to (zones (q c p rq rp ok))) (all-up_to _ _ (λ z m. record {
        six = record {
          rgu = shortfall-fits t z C.rgu l m;
          rgd = shortfall-fits t z C.rgd l m;
          scr = shortfall-fits t z C.scr l m;
          nsc = shortfall-fits t z C.nsc l m;
          rru = shortfall-fits t z C.rru l m;
          rrd = shortfall-fits t z C.rrd l m;
        };
        reactive = two-fit e plain t z m;
      }));
      mismatch = bars-fit e plain t l;
      reactive_mismatch = apart_fits e plain t l;
    }));
    count = gather-counted (λ i w. max_zero (C.overrun_need (q c p rq rp ok) p i w)) (λ i. length (device (q c p rq rp ok) i).energy_windows) (up_to (devices (q c p rq rp ok)));
    overruns = all-gather _ _ (up_to (devices (q c p rq rp ok))) (all-up_to _ _ (λ i m.
        map-of-all (λ x. x ≤ 2 ^ 32 - 1) (λ w. max_zero (C.overrun_need (q c p rq rp ok) p i w)) (up_to (length (device (q c p rq rp ok) i).energy_windows))
        (all-up_to (λ w. max_zero (C.overrun_need (q c p rq rp ok) p i w) ≤ 2 ^ 32 - 1) _ (λ w k. overrun-fits i w m))));
    surplus = f;
    size = s;
  }

side-bound : (b : Bool) (z : ℤ) (n : ℕ) → nat_abs z ≤ n → nat_abs (C.by_side b z) ≤ n
side-bound true z n h = h
side-bound false z n h = omega (arith, abs_neg z)

module _ (c : Case) (p : Plan) (rq : SystemRange c.system) (rp : PlanRange c.system p) (ok : EveryRule c.system p) (rc : PriceRange c) where
  abbrev sys : System
  sys = c.system

  abbrev our : C.Completion ℤ
  our = whole (ours c p)

  -- over at most m intervals and k others, at most n of them, each at most b
  grid : (m : ℕ) → intervals sys ≤ m → (k n b : ℕ) (f : ℕ → ℕ → ℤ) → k ≤ n → ((t i : ℕ) → t < intervals sys → i < k → nat_abs (f t i) ≤ b)
      → nat_abs (sumℤ (λ t. sumℤ (f t) (up_to k)) (up_to (intervals sys))) ≤ m * (n * b)
  grid m short k n b f h g = bound-few (λ t. sumℤ (f t) (up_to k)) (n * b) (intervals sys) m short (λ t l. bound-few (f t) b k n h (λ i j. g t i l j))

  abbrev d : ℕ → ℤ
  d t = pos (duration sys t)

  block-worth : (t i : ℕ) → t < intervals sys → i < devices sys → nat_abs (C.block_worth c p our t i) ≤ most_block_worth
  unfolding C.block_worth whole ours range
  block-worth t i l m = bound-mul (d t) (C.by_side (consuming sys i) total) most_minutes (most_blocks * (most_price * most_power)) (duration-bound sys p rq rp ok t)
      (side-bound (consuming sys i) total (most_blocks * (most_price * most_power)) (bound-sum term (most_price * most_power) blocks
      (all-up_to (λ k. nat_abs (term k) ≤ most_price * most_power) most_blocks (λ k h.
      bound-mul (C.block_price c t i k) (our.block t i k) most_price most_power (rc.block t i k) (block-bound c p rq rp ok t i k l m h)))))
    where
      term : ℕ → ℤ
      term k = C.block_price c t i k *ℤ our.block t i k

      total : ℤ
      total = sumℤ term blocks

  on-cost : (t i : ℕ) → t < intervals sys → i < devices sys → nat_abs (C.on_cost c p our t i) ≤ most_on_costs
  unfolding C.on_cost u
  on-cost t i l m = bound-mul (d t) (pos ((C.device_prices c i).on_cost * u sys p t i)) most_minutes (most_on_cost * 1) (duration-bound sys p rq rp ok t)
      (mul-le-mul (rc.on i) (setting-at sys p rq rp ok t i l m).on)

  change-cost : (t i : ℕ) → t < intervals sys → i < devices sys → nat_abs (C.change_cost c p our t i) ≤ most_changes
  unfolding C.change_cost whole ours su sd
  change-cost t i l m = bound-add (a +ℤ b) (C.state_cost c i (our.state t i)) (2 * most_change) most_change (bound-add a b most_change most_change
      (bound-mul (pos (C.device_prices c i).start_cost) (our.started t i) most_change 1 (rc.start i) (bit_le (ltb (u_before sys p t i) (u sys p t i))))
      (bound-mul (pos (C.device_prices c i).stop_cost) (our.stopped t i) most_change 1 (rc.stop i) (bit_le (ltb (u sys p t i) (u_before sys p t i)))))
      (rc.state i (our.state t i))
    where
      a : ℤ
      a = pos (C.device_prices c i).start_cost *ℤ our.started t i

      b : ℤ
      b = pos (C.device_prices c i).stop_cost *ℤ our.stopped t i

  reserves-cost : (t i : ℕ) → t < intervals sys → i < devices sys → nat_abs (C.reserves_cost c p our t i) ≤ most_reserves
  unfolding C.reserves_cost C.reserve_cost
  reserves-cost t i l m =
      let a = rc.reserve t i in let b = (setting-at sys p rq rp ok t i l m).reserves in
      bound-mul (d t) (pos (C.reserve_cost (C.cell_prices c t i).reserves (setting sys p t i).reserves)) most_minutes (reserve_kinds * (most_price * most_power)) (duration-bound sys p rq rp ok t)
      (omega (
        arith,
        mul-le-mul a.rgu b.rgu,
        mul-le-mul a.rgd b.rgd,
        mul-le-mul a.scr b.scr,
        mul-le-mul a.nsc b.nsc,
        mul-le-mul a.rru_on b.rru_on,
        mul-le-mul a.rru_off b.rru_off,
        mul-le-mul a.rrd_on b.rrd_on,
        mul-le-mul a.rrd_off b.rrd_off,
      ))

  reactive-reserves-cost : (t i : ℕ) → t < intervals sys → i < devices sys → nat_abs (C.reactive_reserves_cost c p our t i) ≤ most_reactive_reserves
  unfolding C.reactive_reserves_cost C.reactive_reserve_cost
  reactive-reserves-cost t i l m =
      let a = rc.reactive_reserve t i in let b = (setting-at sys p rq rp ok t i l m).reactive in
      bound-mul (d t) (pos (C.reactive_reserve_cost (C.cell_prices c t i).reactive (setting sys p t i).reactive)) most_minutes (reactive_kinds * (most_price * most_power))
      (duration-bound sys p rq rp ok t) (omega (arith, mul-le-mul a.qru b.qru, mul-le-mul a.qrd b.qrd))

  reactive-price : (z : ℕ) (k : C.ReactiveShortfall) → C.reactive_price (get_or c.prices.zones z no_kinds).reactive k ≤ most_shortfall_price
  reactive-price z C.qru = (rc.reactive_shortfall z).qru
  reactive-price z C.qrd = (rc.reactive_shortfall z).qrd

  reactive-shortfall-cost : (t z : ℕ) → t < intervals sys → z < zones sys → nat_abs (C.reactive_shortfall_cost c p our t z) ≤ most_reactive_shortfall_cost
  unfolding C.reactive_shortfall_cost whole ours
  reactive-shortfall-cost t z l m = bound-mul (d t) (sumℤ term C.reactive_shortfalls) most_minutes (reactive_kinds * most) (duration-bound sys p rq rp ok t) (bound-sum term most C.reactive_shortfalls
      (all {P = λ k. nat_abs (term k) ≤ most} (λ k.
      bound-mul (pos (C.reactive_price (get_or c.prices.zones z no_kinds).reactive k)) (our.reactive_shortfall t z k) most_shortfall_price most_reactive_shortfall (reactive-price z k)
      (reactive-shortfall-bound sys p rq rp ok t z k m)) C.reactive_shortfalls))
    where
      term : C.ReactiveShortfall → ℤ
      term k = pos (C.reactive_price (get_or c.prices.zones z no_kinds).reactive k) *ℤ our.reactive_shortfall t z k

      most : ℕ
      most = most_shortfall_price * most_reactive_shortfall

  -- ---- at most N devices and T intervals
  module _ (N T : ℕ) (few : devices sys ≤ N) (short : intervals sys ≤ T) where
    shortfall-cost : (t z : ℕ) → t < intervals sys → z < zones sys → nat_abs (C.shortfall_cost c p our t z) ≤ most_shortfall_cost N
    unfolding C.shortfall_cost whole ours
    shortfall-cost t z l m = bound-mul (d t) (sumℤ term C.shortfalls) most_minutes (shortfall_kinds * most) (duration-bound sys p rq rp ok t) (bound-sum term most C.shortfalls
        (all {P = λ k. nat_abs (term k) ≤ most} (λ k.
        bound-mul (pos (C.shortfall_price (get_or c.prices.zones z no_kinds).six k)) (our.shortfall t z k) most_shortfall_price (most_shortfall N) (rc.shortfall z k)
        (shortfall-bound sys p rq rp ok N few t z k l m)) C.shortfalls))
      where
        term : C.Shortfall → ℤ
        term k = pos (C.shortfall_price (get_or c.prices.zones z no_kinds).six k) *ℤ our.shortfall t z k

        most : ℕ
        most = most_shortfall_price * most_shortfall N

    mismatch-cost : (t b : ℕ) → t < intervals sys → nat_abs (C.mismatch_cost c p our t b) ≤ most_mismatch_cost N
    unfolding C.mismatch_cost whole ours
    mismatch-cost t b l = bound-mul (d t) (pos c.prices.mismatch *ℤ our.mismatch t b) most_minutes (most_price * most_mismatch N) (duration-bound sys p rq rp ok t)
        (bound-mul (pos c.prices.mismatch) (our.mismatch t b) most_price (most_mismatch N) rc.mismatch (mismatch-bound sys p rq rp ok N few t b l))

    -- over the intervals and both bars
    on-bars : (f : ℕ → ℕ → ℤ) → ((t b : ℕ) → t < intervals sys → nat_abs (f t b) ≤ most_mismatch_cost N)
        → nat_abs (sumℤ (λ t. sumℤ (f t) C.bars) (up_to (intervals sys))) ≤ T * (bar_count * most_mismatch_cost N)
    on-bars f h = bound-few (λ t. sumℤ (f t) C.bars) (bar_count * most_mismatch_cost N) (intervals sys) T short
        (λ t l. bound-sum (f t) (most_mismatch_cost N) C.bars (h t 0 l, (h t 1 l, tt)))

    overruns-sum : (i : ℕ) → i < devices sys → nat_abs (C.overruns c p our i) ≤ most_windows * most_overrun T
    unfolding C.overruns whole ours
    overruns-sum i m = bound-few (our.overrun i) (most_overrun T) (length (device sys i).energy_windows) most_windows (device-at sys p rq rp ok i m).energies
        (λ w k. overrun-bound sys p rq rp ok T short i w m)

    reactive-mismatch-cost : (t b : ℕ) → t < intervals sys → nat_abs (C.reactive_mismatch_cost c p our t b) ≤ most_mismatch_cost N
    unfolding C.reactive_mismatch_cost whole ours
    reactive-mismatch-cost t b l = bound-mul (d t) (pos c.prices.mismatch *ℤ our.reactive_mismatch t b) most_minutes (most_price * most_mismatch N) (duration-bound sys p rq rp ok t)
        (bound-mul (pos c.prices.mismatch) (our.reactive_mismatch t b) most_price (most_mismatch N) rc.mismatch (omega (arith, reactive-mismatch-bound sys p rq rp ok N few t b l)))

    reactive-size : nat_abs (C.reactive_costs c p our) ≤ most_reactive_costs N T
    unfolding C.reactive_costs
    reactive-size = bound-add (A +ℤ B) E _ _
        (bound-add A B _ _ (grid T short (devices sys) N most_reactive_reserves (C.reactive_reserves_cost c p our) few reactive-reserves-cost)
        (grid T short (zones sys) most_zones most_reactive_shortfall_cost (C.reactive_shortfall_cost c p our) rq.zones reactive-shortfall-cost))
        (on-bars (C.reactive_mismatch_cost c p our) reactive-mismatch-cost)
      where
        A : ℤ
        A = sumℤ (λ t. sumℤ (C.reactive_reserves_cost c p our t) (up_to (devices sys))) (up_to (intervals sys))

        B : ℤ
        B = sumℤ (λ t. sumℤ (C.reactive_shortfall_cost c p our t) (up_to (zones sys))) (up_to (intervals sys))

        E : ℤ
        E = sumℤ (λ t. sumℤ (C.reactive_mismatch_cost c p our t) C.bars) (up_to (intervals sys))

    real-size : nat_abs (C.real_surplus c p our) ≤ most_real_surplus N T
    unfolding C.real_surplus
    real-size = omega (
      arith,
      bound-sub (A -ℤ B -ℤ E -ℤ H -ℤ K -ℤ M) G _ _ (bound-sub (A -ℤ B -ℤ E -ℤ H -ℤ K) M _ _
          (bound-sub (A -ℤ B -ℤ E -ℤ H) K _ _ (bound-sub (A -ℤ B -ℤ E) H _ _ (bound-sub (A -ℤ B) E _ _ (bound-sub A B _ _
          (grid T short (devices sys) N most_block_worth (C.block_worth c p our) few block-worth)
          (grid T short (devices sys) N most_on_costs (C.on_cost c p our) few on-cost))
          (grid T short (devices sys) N most_changes (C.change_cost c p our) few change-cost))
          (grid T short (devices sys) N most_reserves (C.reserves_cost c p our) few reserves-cost))
          (grid T short (zones sys) most_zones (most_shortfall_cost N) (C.shortfall_cost c p our) rq.zones shortfall-cost))
          (on-bars (C.mismatch_cost c p our) mismatch-cost))
          (bound-mul (pos c.prices.overrun) (sumℤ (C.overruns c p our) (up_to (devices sys))) most_price (N * (most_windows * most_overrun T)) rc.overrun
          (bound-few (C.overruns c p our) (most_windows * most_overrun T) (devices sys) N few overruns-sum)),
    )
      where
        over : (ℕ → ℕ → ℤ) → ℤ
        over f = sumℤ (λ t. sumℤ (f t) (up_to (devices sys))) (up_to (intervals sys))

        A : ℤ
        A = over (C.block_worth c p our)

        B : ℤ
        B = over (C.on_cost c p our)

        E : ℤ
        E = over (C.change_cost c p our)

        H : ℤ
        H = over (C.reserves_cost c p our)

        K : ℤ
        K = sumℤ (λ t. sumℤ (C.shortfall_cost c p our t) (up_to (zones sys))) (up_to (intervals sys))

        M : ℤ
        M = sumℤ (λ t. sumℤ (C.mismatch_cost c p our t) C.bars) (up_to (intervals sys))

        G : ℤ
        G = pos c.prices.overrun *ℤ sumℤ (C.overruns c p our) (up_to (devices sys))

    -- one theorem over the counts: the small editions are its instance at 16 and 48
    pub surplus-within : nat_abs (our_surplus c p) ≤ most_surplus N T
    unfolding our_surplus C.surplus_of
    surplus-within = bound-sub (C.real_surplus c p our) (C.reactive_costs c p our) (most_real_surplus N T) (most_reactive_costs N T) real-size reactive-size

  -- "the small editions being instances": at 16 devices and 48 intervals
  pub small-surplus-size : devices sys ≤ small_widths.device_limit → intervals sys ≤ small_widths.interval_limit → nat_abs (our_surplus c p) < surplus_limit
  small-surplus-size few short = omega (arith, surplus-within small_widths.device_limit small_widths.interval_limit few short, most-small-surplus)

  pub surplus-size : nat_abs (our_surplus c p) < surplus_limit
  surplus-size = omega (arith, surplus-within most_devices most_intervals rq.devices rq.intervals, most-surplus)
