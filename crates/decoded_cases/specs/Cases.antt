-- A case's bytes read into the first rows of tables by a reader that takes counts up to given ones.
use Rattle.std.specs.Prelude.{◌≡◌, List, ℕ, ◌≤◌}
use Rattle.std.proofs.Common.{sym}
use Rattle.layouts.specs.declared.Fault.{Fault}
use Rattle.layouts.specs.Layout.{passes, fails}
use Rattle.model.specs.Editions.{Largest, most_devices, most_intervals}
use Rattle.model.specs.ByEdition.{Stated, stated_in}
use Rattle.theorems.proofs.Promise.{stated-sound}
use Rattle.row_places.specs.declared.Front.{Front}
use Rattle.row_places.specs.declared.Counts.{Counts}
use Rattle.case_reader.specs.Whole.{CasePassed, CaseRefused}
use Rattle.decoded_cases.specs.Decoded.{stated_first, DecodedFirst}

module _ (l : Largest) (most : l.devices ≤ most_devices) (long : l.intervals ≤ most_intervals) (cs : List ℕ) where
  pub failed : {f : Fault} → CaseRefused l.devices l.intervals cs f → stated_in l cs ≡ fails f
  failed h = sym h.is

  module _ (halves : List ℕ) (zones minima devices cells : List (List ℕ)) (front : Front) (n : Counts) (h : CasePassed l.devices l.intervals cs halves zones minima devices cells front n) where
    abbrev held : Stated
    held = stated_first front n halves zones minima devices cells

    pub passed : stated_in l cs ≡ passes held
    passed = sym h.is

    -- its rows are decoded
    pub decoded-first : DecodedFirst front n halves zones minima devices cells l
    decoded-first = record {
      decoded = let sound = stated-sound l most long cs held passed in record { rows = h.decoded; countable = sound.countable; plain = sound.plain; barless = sound.barless };
      few-devices = h.counted.devices;
      few-intervals = h.counted.intervals;
      few-zones = h.counted.zones;
      long = h.long;
    }
