-- A case's zones and devices in their tables: a row each, and each with its part of m rows.
use Rattle.std.specs.Prelude.{Result, Ok, ◌≡◌, List, [], ℕ, ◌*◌, ◌≤◌, ◌<◌, length, get_or}
use Rattle.layouts.specs.declared.Place.{Place}
use Rattle.layouts.specs.Layout.{list}
use Rattle.model.specs.Case as C
use Rattle.model.specs.ByEdition as B
use Rattle.numbers.specs.Rows.{rows}
use Rattle.row_places.specs.declared.Device.{Device}
use Rattle.row_places.specs.Figures.{device_of, device_row, DeviceSmall}
use Rattle.numbers.specs.Parts.{part}
use Rattle.records.specs.Views.{most_intervals, device_in, device_prices_in, Padded, Counted}
use Rattle.layouts.specs.declared.Fault.{Fault}
use Rattle.fields.specs.Got.{Got, good, got, seen, told}
use Rattle.zone_reader.specs.Zones.{zone_pair}

-- room for n rows, and for n parts of m
pub record Fits (n m : ℕ) (heads table : List (List ℕ)) : Type 0 where
  pub few : m ≤ most_intervals
  pub room : n ≤ length heads
  pub parts : n * m ≤ length table

-- the n first zones
abbrev pub zones_in : (n m : ℕ) → (zones minima : List (List ℕ)) → List (C.Zone × C.Kinds)
zones_in n m zones minima = rows (λ z. zone_pair (get_or zones z []) (part m z minima)) n

-- a device's row with its part of the cells
abbrev pub device_pair : List ℕ → List (List ℕ) → C.Device × C.DevicePrices
device_pair r cells = (device_in (device_of r) cells, device_prices_in (device_of r) cells)

-- a device that was read, its cells in its part
pub record DeviceDone (e : ℕ) (s : List ℕ) (p : Place) (zones last : ℕ) (r : Got Device) (cells : List (List ℕ)) : Type 0 where
  pub is : seen (λ d. device_pair (device_row d) cells) r ≡ got (B.device e (length cells) zones last) s p
  pub small : (d : Device) (q : Place) → r ≡ good d q → DeviceSmall d
  pub counted : (d : Device) (q : Place) → r ≡ good d q → Counted (device_of (device_row d))
  pub padded : (d : Device) (q : Place) → r ≡ good d q → (k : ℕ) → k < length cells → Padded (get_or cells k [])

-- the n first devices
abbrev pub devices_in : (n m : ℕ) → (devices cells : List (List ℕ)) → List (C.Device × C.DevicePrices)
devices_in n m devices cells = rows (λ i. device_pair (get_or devices i []) (part m i cells)) n

-- a row that a device was stored in
pub record Stored (r : List ℕ) : Type 0 where
  pub device : Device
  pub is : r ≡ device_row device

-- what holds of them: absent blocks have cap 0, lists at most four
pub record Manned (n m : ℕ) (devices cells : List (List ℕ)) : Type 0 where
  pub counted : (i : ℕ) → i < n → Counted (device_of (get_or devices i []))
  pub padded : (k : ℕ) → k < n * m → Padded (get_or cells k [])

pub record DevicesDone (e : ℕ) (s : List ℕ) (p : Place) (n m zones last : ℕ) (r : Result Place Fault) (devices cells : List (List ℕ)) : Type 0 where
  pub is : told r (devices_in n m devices cells) ≡ got (list n (B.device e m zones last)) s p
  pub stored : (q : Place) → r ≡ Ok q → (i : ℕ) → i < n → Stored (get_or devices i [])
  pub manned : (q : Place) → r ≡ Ok q → Manned n m devices cells
