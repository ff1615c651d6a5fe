-- The counts that a case's message states, and which of them are a small case's.
use Rattle.std.specs.Prelude.{◌≡◌, Bool, true, false, List, ℕ, leb}
use Rattle.bits.specs.Bits.{read_field}
use Rattle.bits.specs.Pick.{pick}
use Rattle.bits.specs.declared.Field.{Field}
use Rattle.bits.specs.declared.Field.TheVariants.{Value, Cut}
use Rattle.model.specs.Editions.{newest, batch, host, device_bits, interval_bits}
use Rattle.model.specs.ByEdition.{stated_in}
use Rattle.case_sizes.specs.declared.Size.{Size}
use Rattle.case_sizes.specs.declared.Size.TheVariants.{Unstated, Small, ManyDevices, ManyIntervals}

-- the count of intervals as it is read
abbrev pub by_intervals : Field → Size
by_intervals (Value m after) = pick (leb m batch.intervals) Small ManyIntervals
by_intervals (Cut b) = Unstated

-- the count of devices, and behind it that of intervals
abbrev pub by_devices : List ℕ → ℕ → Field → Size
by_devices s e (Value n after) = pick (leb n batch.devices) (by_intervals (read_field s after.at (interval_bits e))) ManyDevices
by_devices s e (Cut b) = Unstated

-- the counts from `at` on, by the widths of edition e
abbrev pub by_size : List ℕ → ℕ → ℕ → Size
by_size s e at = by_devices s e (read_field s at (device_bits e))

abbrev pub by_edition : List ℕ → Field → Size
by_edition s (Value e after) = pick (leb e newest) (by_size s e after.at) Unstated
by_edition s (Cut b) = Unstated

-- "kind 4; edition 4"; then the counts
abbrev pub size_of : List ℕ → Size
size_of s = by_edition s (read_field s 4 4)

-- whether tables for a small case are enough
abbrev pub few : Size → Bool
few Unstated = true
few Small = true
few ManyDevices = false
few ManyIntervals = false

pub record Sized (cs : List ℕ) (r : Size) : Type 0 where
  pub is : r ≡ size_of cs
  -- then a reader that takes no more than a small case's counts and the host library's pass it with the same content, or fail it with the same fault
  pub alike : few r ≡ true → stated_in batch cs ≡ stated_in host cs
