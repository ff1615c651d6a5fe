-- What no reader takes, by the paper's numbers: an edition past the newest, and counts above the edition's limit or the reader's largest.
use Rattle.std.specs.Prelude.{◌≡◌, List, ℕ, ◌<◌}
use Rattle.std.proofs.Common.{inr, arith}
use Rattle.bits.specs.Bits.{read_field}
use Rattle.bits.specs.declared.Cursor.{Cursor}
use Rattle.bits.specs.declared.Field.TheVariants.{Value}
use Rattle.layouts.specs.declared.Place.{Place}
use Rattle.layouts.specs.Layout.{nat}
use Rattle.layouts.specs.Numbers.{fields_of, at_first, count-is-3, wrong-is}
use Rattle.model.specs.Editions.{newest, Largest, device_bits, interval_bits, device_limit, interval_limit, devices_in, intervals_in}
use Rattle.model.specs.ByEdition.{edition_field, device_count, interval_count}

module _ (s : List ℕ) (p : Place) {v : ℕ} {c : Cursor} where
  -- "kind or edition wrong"
  pub past-newest : read_field s p.at 4 ≡ Value v c → newest < v → fields_of (nat edition_field) s p ≡ at_first s p 2
  past-newest e h = wrong-is s p edition_field v c e (inr h)

  -- "count (of devices, intervals, ..) out of range": the reader's, and the edition's own
  module _ (e : ℕ) (l : Largest) where
    pub devices-past-reader : read_field s p.at (device_bits e) ≡ Value v c → l.devices < v → fields_of (nat (device_count e l)) s p ≡ at_first s p 3
    devices-past-reader r h = count-is-3 s p (device_bits e) 1 (devices_in e l) r (inr (omega arith))

    pub devices-past-edition : read_field s p.at (device_bits e) ≡ Value v c → device_limit e < v → fields_of (nat (device_count e l)) s p ≡ at_first s p 3
    devices-past-edition r h = count-is-3 s p (device_bits e) 1 (devices_in e l) r (inr (omega arith))

    pub intervals-past-reader : read_field s p.at (interval_bits e) ≡ Value v c → l.intervals < v → fields_of (nat (interval_count e l)) s p ≡ at_first s p 3
    intervals-past-reader r h = count-is-3 s p (interval_bits e) 1 (intervals_in e l) r (inr (omega arith))

    pub intervals-past-edition : read_field s p.at (interval_bits e) ≡ Value v c → interval_limit e < v → fields_of (nat (interval_count e l)) s p ≡ at_first s p 3
    intervals-past-edition r h = count-is-3 s p (interval_bits e) 1 (intervals_in e l) r (inr (omega arith))
