-- A decoded case and a decoded plan, and tables to work in.
use Rattle.std.specs.Prelude.{◌≡◌, false, List, ℕ, ◌+◌, ◌*◌, ◌≤◌, length, take}
use Rattle.model.specs.Editions.{Largest, most_zones}
use Rattle.model.specs.ByEdition.{Stated}
use Rattle.model.specs.Judgement.{counts_of}
use Rattle.layouts.specs.Since.{has}
use Rattle.ranges.specs.Plain.{SystemPlain}
use Rattle.ranges.specs.Barless.{SystemBarless}
use Rattle.theorems.specs.Back.{Countable}
use Rattle.theorems.specs.Promise.{Sound}
use Rattle.row_places.specs.declared.Front.{Front}
use Rattle.row_places.specs.declared.Counts.{Counts}
use Rattle.records.specs.Views.{system_in, case_in, CaseRows, PlanRows}
use Rattle.case_reader.specs.Whole.{Long}

-- the case that the rows hold, with its edition
abbrev pub stated_rows : Front → (halves : List ℕ) (zones minima devices cells : List (List ℕ)) → Stated
stated_rows front halves zones minima devices cells = record { edition = front.edition; case = case_in front halves zones minima devices cells }

-- a case that passed reading: its rows, counts that the fields of its plans and completions hold, and nothing that its edition lacks
pub record Decoded (front : Front) (halves : List ℕ) (zones minima devices cells : List (List ℕ)) : Type 0 where
  pub rows : CaseRows front halves zones minima devices cells
  pub countable : Countable front.edition (counts_of (system_in halves zones minima devices cells))
  pub plain : has 2 front.edition ≡ false → SystemPlain (system_in halves zones minima devices cells)
  pub barless : has 5 front.edition ≡ false → SystemBarless (system_in halves zones minima devices cells)

-- room for a plan and its forced figures
pub record Work (halves : List ℕ) (devices settings : List (List ℕ)) (starts powers : List ℕ) : Type 0 where
  pub settings-full : length settings ≡ length devices * length halves
  pub starts-full : length starts ≡ length halves + 1
  pub powers-full : length powers ≡ length devices * length halves

-- with a plan that passed reading
pub record Planned (front : Front) (halves : List ℕ) (zones minima devices cells settings : List (List ℕ)) (starts powers : List ℕ) : Type 0 where
  pub decoded : Decoded front halves zones minima devices cells
  pub plan-rows : PlanRows (length devices) (length halves) settings
  pub starts-full : length starts ≡ length halves + 1
  pub powers-full : length powers ≡ length devices * length halves

pub sound-rows : {front : Front} {halves : List ℕ} {zones minima devices cells : List (List ℕ)} → Decoded front halves zones minima devices cells
    → Sound (stated_rows front halves zones minima devices cells)
sound-rows d = record { range = d.rows.range; countable = d.countable; plain = d.plain; barless = d.barless }

-- ---- tables with room for more: a case in their first rows

module _ (front : Front) (n : Counts) (halves : List ℕ) (zones minima devices cells : List (List ℕ)) where
  abbrev pub stated_first : Stated
  stated_first = stated_rows front (take n.intervals halves) (take n.zones zones) (take (n.zones * n.intervals) minima) (take n.devices devices) (take (n.devices * n.intervals) cells)

  -- read by a reader that takes counts up to these
  pub record DecodedFirst (l : Largest) : Type 0 where
    pub decoded : Decoded front (take n.intervals halves) (take n.zones zones) (take (n.zones * n.intervals) minima) (take n.devices devices) (take (n.devices * n.intervals) cells)
    pub few-devices : n.devices ≤ l.devices
    pub few-intervals : n.intervals ≤ l.intervals
    pub few-zones : n.zones ≤ most_zones
    pub long : Long n halves zones minima devices cells
