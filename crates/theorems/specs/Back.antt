-- A written completion reads back, where each figure fits its field.
use Rattle.std.specs.Prelude.{◌≡◌, ℕ, ◌-◌, ◌^◌, ◌≤◌, ◌<◌, nat_abs}
use lib.ListN.{length}
use Rattle.numbers.specs.Sum.{All}
use Rattle.model.specs.Case.{Six, Kinds, ReactiveReserves, no_reactive_reserves}
use Rattle.model.specs.Editions.{device_bits, interval_bits}
use Rattle.model.specs.Messages.{Counts, six, DeviceChoice, Bars, no_bars, IntervalChoice, Written}
use Rattle.layouts.specs.Since.{has, Where}
use Rattle.layouts.specs.Trip.{Fits}

-- ---- what fits
pub record FitsSix (r : Six) : Type 0 where
  pub rgu : r.rgu ≤ 2 ^ 33 - 1
  pub rgd : r.rgd ≤ 2 ^ 33 - 1
  pub scr : r.scr ≤ 2 ^ 33 - 1
  pub nsc : r.nsc ≤ 2 ^ 33 - 1
  pub rru : r.rru ≤ 2 ^ 33 - 1
  pub rrd : r.rrd ≤ 2 ^ 33 - 1

pub record FitsTwo (r : ReactiveReserves) : Type 0 where
  pub qru : r.qru ≤ 2 ^ 33 - 1
  pub qrd : r.qrd ≤ 2 ^ 33 - 1

-- in edition e: what it lacks is neutral
pub record FitsKinds (e : ℕ) (r : Kinds) : Type 0 where
  pub six : FitsSix r.six
  pub reactive : Where (has 2 e) no_reactive_reserves FitsTwo r.reactive

pub record FitsDevice (r : DeviceChoice) : Type 0 where
  pub started : r.started ≤ 1
  pub stopped : r.stopped ≤ 1
  pub state : r.state ≤ 7
  pub four : length r.blocks ≡ 4
  pub blocks : All (λ b. b ≤ 2 ^ 17 - 1) r.blocks

-- a figure for each bar, in edition e
pub record FitsBars (e : ℕ) (r : Bars) : Type 0 where
  pub first : r.first ≤ 2 ^ 23 - 1
  pub second : Where (has 5 e) 0 (λ v. v ≤ 2 ^ 23 - 1) r.second

pub record FitsInterval (e : ℕ) (n : Counts) (r : IntervalChoice) : Type 0 where
  pub each : length r.devices ≡ n.devices
  pub devices : All FitsDevice r.devices
  pub every : length r.zones ≡ n.zones
  pub zones : All (FitsKinds e) r.zones
  pub mismatch : FitsBars e r.mismatch
  pub reactive_mismatch : Where (has 2 e) no_bars (FitsBars e) r.reactive_mismatch

pub record FitsWritten (e : ℕ) (n : Counts) (windows : ℕ) (r : Written) : Type 0 where
  pub length : length r.intervals ≡ n.intervals
  pub each : All (FitsInterval e n) r.intervals
  pub count : lib.ListN.length r.overruns ≡ windows
  pub overruns : All (λ x. x ≤ 2 ^ 32 - 1) r.overruns
  pub surplus : Fits 64 r.surplus
  pub size : nat_abs r.surplus ≤ 2 ^ 63

-- ---- a completion of every edition

-- counts that their fields can hold, in an edition that its field can hold
pub record Countable (e : ℕ) (n : Counts) : Type 0 where
  pub edition : e < 2 ^ 4
  pub devices : n.devices < 2 ^ device_bits e
  pub intervals : n.intervals < 2 ^ interval_bits e
  pub zones : n.zones < 2 ^ 3
