-- The sizes of needs where every rule holds, for any counts up to the most.
use Rattle.std.specs.Prelude.{Bool, true, false, ◌&&◌, ℕ, ◌*◌, ◌≤◌, ◌<◌, eqb, get_or, pos, ◌-ℤ◌}
use native.Mathlib.Omega.{arith}
use Rattle.std.proofs.Math.Nat.{mul-le-mul}
use Rattle.numbers.specs.Laws.{max_zero, above-is}
use Rattle.bits.specs.Pick.{pick}
use Rattle.model.specs.Case.{System, Plan, no_minima, no_energy_window}
use Rattle.model.specs.Forced.{intervals, devices, zones, device, zone, energy_window, consuming, member, power}
use Rattle.model.specs.Rules.{EveryRule}
use Rattle.model.specs.Completion as C
use Rattle.ranges.specs.Ranges.{SystemRange, MinimaRange, PlanRange, EnergyRange}
use Rattle.numbers.specs.Every.{all-or, gate-le}
use Rattle.numbers.specs.Ranges.{sum-few}
use Rattle.theorems.proofs.Sizes.{power-bound, unit-bound, zone-at, device-at, minutes-bound}
use Rattle.records.specs.Views.{most_devices, most_intervals}
use Rattle.money.specs.Bounds.{power_most, minutes_most, load_most, share_most, shortfall_most, limit_most}

-- a share of a power
share : (a b n : ℕ) → a ≤ share_most → b ≤ n → a * b ≤ share_most * n
share a b n h i = mul-le-mul h i

module _ (q : System) (p : Plan) (rq : SystemRange q) (rp : PlanRange q p) (ok : EveryRule q p) (few : devices q ≤ most_devices) where
  load-bound : (t z : ℕ) → t < intervals q → C.load q p t z ≤ load_most
  unfolding C.load
  load-bound t z l = sum-few _ power_most (devices q) most_devices few (λ i m. gate-le (member q z i && consuming q i) (power q p t i) power_most (power-bound q p rq rp ok t i l m))

  minima-at : (t z : ℕ) → z < zones q → MinimaRange (get_or (zone q z).minima t no_minima)
  minima-at t z m = all-or MinimaRange no_minima (record { rru = omega arith; rrd = omega arith; reactive = record { qru = omega arith; qrd = omega arith } })
      (zone q z).minima (zone-at q p rq rp ok z m).minima t

  required-bound : (t z : ℕ) (k : C.Shortfall) → t < intervals q → z < zones q → C.required q p t z k ≤ shortfall_most
  unfolding C.required
  required-bound t z C.rgu l m = let s = (zone-at q p rq rp ok z m).shares in omega (arith, share _ _ load_most s.rgu (load-bound t z l))
  required-bound t z C.rgd l m = let s = (zone-at q p rq rp ok z m).shares in omega (arith, share _ _ load_most s.rgd (load-bound t z l))
  required-bound t z C.scr l m =
      let s = (zone-at q p rq rp ok z m).shares in
      omega (arith, share _ _ load_most s.rgu (load-bound t z l), share _ _ power_most s.scr (unit-bound q p rq rp ok t z l))
  required-bound t z C.nsc l m =
      let s = (zone-at q p rq rp ok z m).shares in
      omega (arith, share _ _ load_most s.rgu (load-bound t z l), share _ _ power_most s.scr (unit-bound q p rq rp ok t z l), share _ _ power_most s.nsc (unit-bound q p rq rp ok t z l))
  required-bound t z C.rru l m = omega (arith, (minima-at t z m).rru)
  required-bound t z C.rrd l m = omega (arith, (minima-at t z m).rrd)

  pub shortfall-bound : (t z : ℕ) (k : C.Shortfall) → t < intervals q → z < zones q → max_zero (C.shortfall_need q p t z k) ≤ shortfall_most
  unfolding C.shortfall_need
  shortfall-bound t z k l m = omega (arith, above-is (C.required q p t z k) (1000 * C.held q p t z k), required-bound t z k l m)

module _ (q : System) (p : Plan) (rq : SystemRange q) (rp : PlanRange q p) (ok : EveryRule q p) (few : intervals q ≤ most_intervals) where
  energy-bound : (i w : ℕ) → i < devices q → C.energy_in q p i w ≤ most_intervals * (minutes_most * power_most)
  unfolding C.energy_in
  energy-bound i w m = sum-few _ (minutes_most * power_most) (intervals q) most_intervals few (λ t l.
      mul-le-mul (minutes-bound q p rq rp ok (energy_window q i w).from (energy_window q i w).until t) (power-bound q p rq rp ok t i l m))

  pub overrun-bound : (i w : ℕ) → i < devices q → max_zero (C.overrun_need q p i w) ≤ limit_most
  unfolding C.overrun_need
  overrun-bound i w m = go (eqb (energy_window q i w).kind 0)
    where
      limit : (energy_window q i w).energy ≤ limit_most
      limit = (all-or EnergyRange no_energy_window (record { kind = omega arith; from = omega arith; until = omega arith; energy = omega arith })
          (device q i).energy_windows (device-at q p rq rp ok i m).energy w).energy

      go : (b : Bool) → max_zero (pick b (pos (C.energy_in q p i w) -ℤ pos (energy_window q i w).energy) (pos (energy_window q i w).energy -ℤ pos (C.energy_in q p i w))) ≤ limit_most
      go true = omega (arith, above-is (C.energy_in q p i w) (energy_window q i w).energy, energy-bound i w m)
      go false = omega (arith, above-is (energy_window q i w).energy (C.energy_in q p i w), limit)
