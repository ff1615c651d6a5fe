-- A case that passes reading, its devices rearranged, has a message that passes reading, of its own edition and of every later one.
use Rattle.std.proofs.Math.Path.{◌≡◌}
use Rattle.std.specs.Prelude.{List}
use Prim.Native.Nat.{ℕ, ◌*◌, ◌≤◌, max}
use Rattle.std.proofs.Math.ListN.{length}
use Rattle.layouts.specs.Layout.{figure, list, passes, bytes}
use Rattle.layouts.specs.Since.{since}
use Rattle.model.specs.Case.{Case, Device, DevicePrices, no_device, no_device_prices}
use Rattle.model.specs.Forced.{intervals, devices, zones}
use Rattle.model.specs.Editions.{newest, Largest, most_devices, most_intervals, most_zones}
use Rattle.model.specs.Messages as M
use Rattle.model.specs.ByEdition as B
use Rattle.model.specs.ByEdition.{Stated, stated_in}
use Rattle.writing.specs.Again.{Fit}
use Rattle.renumbering.specs.Permute.{Renumbering}
use Rattle.renumbering.specs.Promise.{rearranged_stated}
use Rattle.renumbered_messages.specs.Each.{Each}

abbrev pub none : Device × DevicePrices
none = (no_device, no_device_prices)

-- a device of edition e, among so many intervals and zones, the last ending with these halves
abbrev DeviceFits : ℕ → M.Counts → List ℕ → (Device × DevicePrices) → Type 1
DeviceFits e n halves = Fit (B.device e n.intervals n.zones (M.last_end halves)) 40443

-- the parts of a case, each of which can be written
pub record Parts (e : ℕ) (l : Largest) (c : Case) : Type 1 where
  pub n : M.Counts
  pub counts : ◌≡◌ {A = M.Counts} (record { devices = length c.system.devices; intervals = length c.system.halves; zones = length c.system.zones }) n
  pub few : n.devices ≤ most_devices
  pub front : Fit (B.counts e l) 17 n
  pub mismatch : Fit (figure 14 1 10000) 14 c.prices.mismatch
  pub overrun : Fit (figure 14 1 10000) 14 c.prices.overrun
  pub limit : Fit (since e 5 0 B.link_limit) 17 c.system.link_limit
  pub halves : Fit (list n.intervals (figure 8 1 180)) (most_intervals * 8) c.system.halves
  pub zones : Fit (M.apart (list n.zones (B.zone e n.intervals))) (most_zones * 8928) (c.system.zones, c.prices.zones)
  pub step : length c.prices.devices ≡ length c.system.devices
  pub each : Each (DeviceFits e n c.system.halves) none (M.pairs c.system.devices c.prices.devices)

-- ---- the whole message

-- what is known of a case that passes reading, for editions from n on
pub record Known (n : ℕ) (l : Largest) (x : Stated) : Type 1 where
  pub edition : (1 ≤ x.edition) × (x.edition ≤ newest)
  pub parts : Parts (max x.edition n) l x.case

module _ (l : Largest) where
  module _ (s : List ℕ) (x : Stated) (h : stated_in l s ≡ passes x) (n : ℕ) (later : x.edition ≤ n) (known : n ≤ newest) (r : Renumbering (devices x.case.system)) where
    -- the case with its devices rearranged, in edition n
    unfoldable pub rearranged_bytes : List ℕ
    rearranged_bytes = bytes ((B.case_layout l).write (rearranged_stated n r x.case))
