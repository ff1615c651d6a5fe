-- A whole case: its front and counts by value, its figures in the first rows of the tables.
use Rattle.std.specs.Prelude.{Result, Ok, Err, ◌≡◌, List, map, ℕ, ◌*◌, ◌≤◌, length, take}
use Rattle.layouts.specs.declared.Fault.{Fault}
use Rattle.layouts.specs.declared.Place.{Place}
use Rattle.layouts.specs.Layout.{list, figure, begin, passes, fails}
use Rattle.layouts.specs.Numbers.{Tells}
use Rattle.model.specs.Case.{Case, Zone, Kinds, Device, DevicePrices}
use Rattle.model.specs.Editions.{most_zones}
use Rattle.model.specs.Messages.{last_end}
use Rattle.model.specs.ByEdition as B
use Rattle.model.specs.ByEdition.{Stated, case_layout, stated_in}
use Rattle.model.specs.AsBefore.{stated}
use Rattle.ranges.specs.Ranges.{StatedRange}
use Rattle.row_places.specs.declared.Counts.{Counts}
use Rattle.row_places.specs.declared.Front.{Front}
use Rattle.records.specs.Views.{most_devices, most_intervals, case_in, CaseRows}
use Rattle.fields.specs.Got.{Got, good, bad, got, seen, told}
use Rattle.front_reader.specs.declared.Opening.{Opening}
use Rattle.front_reader.specs.Fronts.{largest, Within, Ahead, front_in}
use Rattle.case_reader.specs.declared.CaseHead.{CaseHead}
use Rattle.zone_table.specs.Tables.{Fits, Manned}

-- tables with room for so many devices and intervals
pub record CaseRoom (devices intervals : ℕ) (halves : List ℕ) (zone_rows minima_rows device_rows cell_rows : List (List ℕ)) : Type 0 where
  pub few-devices : devices ≤ most_devices
  pub few-intervals : intervals ≤ most_intervals
  pub room-halves : intervals ≤ length halves
  pub room-zones : most_zones ≤ length zone_rows
  pub room-minima : most_zones * intervals ≤ length minima_rows
  pub room-devices : devices ≤ length device_rows
  pub room-cells : devices * intervals ≤ length cell_rows

-- the case in the first rows, so many as its counts say
abbrev pub case_of : Front → Counts → (halves : List ℕ) (zones minima devices cells : List (List ℕ)) → Case
case_of f c halves zones minima devices cells =
    case_in f (take c.intervals halves) (take c.zones zones) (take (c.zones * c.intervals) minima) (take c.devices devices) (take (c.devices * c.intervals) cells)

-- a case from its front, durations, zones and devices
abbrev pub made_of : Ahead → List ℕ → List (Zone × Kinds) → List (Device × DevicePrices) → Stated
made_of h halves zs ds = stated h.0 (record {
  system = record { halves = halves; link_limit = h.1.1.1.1; zones = map (λ z. z.0) zs; devices = map (λ d. d.0) ds };
  prices = record { mismatch = h.1.1.0; overrun = h.1.1.1.0; zones = map (λ z. z.1) zs; devices = map (λ d. d.1) ds };
})

-- what reading the rest behind a front gives
unfoldable pub body_got : Ahead → List ℕ → Place → Got Stated
body_got h s p =
    let n = h.1.0 in
    (list n.intervals (figure 8 1 180)).read s p bad (λ halves p.
    (list n.zones (B.zone h.0 n.intervals)).read s p bad (λ zs p.
    (list n.devices (B.device h.0 n.intervals n.zones (last_end halves))).read s p bad (λ ds p. good (made_of h halves zs ds) p)))

-- room for the figures behind a front
pub record BodyRoom (c : Counts) (halves : List ℕ) (zones minima devices cells : List (List ℕ)) : Type 0 where
  pub some-devices : 1 ≤ c.devices
  pub few-zones : c.zones ≤ most_zones
  pub room : c.intervals ≤ length halves
  pub zones-fit : Fits c.zones c.intervals zones minima
  pub devices-fit : Fits c.devices c.intervals devices cells

pub record BodyDone (s : List ℕ) (p : Place) (o : Opening) (r : Result Place Fault) (halves : List ℕ) (zones minima devices cells : List (List ℕ)) : Type 0 where
  pub is : told r (stated o.front.edition (case_of o.front o.counts halves zones minima devices cells)) ≡ body_got (front_in o) s p
  pub manned : (q : Place) → r ≡ Ok q → Manned o.counts.devices o.counts.intervals devices cells

-- what reading every field leaves, up to so many devices n and intervals m
pub record FieldsDone (n m : ℕ) (s : List ℕ) (r : Got CaseHead) (halves : List ℕ) (zones minima devices cells : List (List ℕ)) : Type 0 where
  pub is : seen (λ h. stated h.front.edition (case_of h.front h.counts halves zones minima devices cells)) r ≡ got (case_layout (largest n m)) s begin
  pub within : (h : CaseHead) (q : Place) → r ≡ good h q → Within (largest n m) h.counts
  pub manned : (h : CaseHead) (q : Place) → r ≡ good h q → Manned h.counts.devices h.counts.intervals devices cells

-- the first rows are as many as the counts say
pub record Long (c : Counts) (halves : List ℕ) (zones minima devices cells : List (List ℕ)) : Type 0 where
  pub halves_long : length (take c.intervals halves) ≡ c.intervals
  pub zones-long : length (take c.zones zones) ≡ c.zones
  pub minima-long : length (take (c.zones * c.intervals) minima) ≡ c.zones * c.intervals
  pub devices-long : length (take c.devices devices) ≡ c.devices
  pub cells-long : length (take (c.devices * c.intervals) cells) ≡ c.devices * c.intervals

-- what reading a case leaves where it passes, up to so many devices n and intervals m: the front and the first rows hold the case that its message states, and
-- they are a decoded case
pub record CasePassed (n m : ℕ) (s : List ℕ) (halves : List ℕ) (zones minima devices cells : List (List ℕ)) (f : Front) (c : Counts) : Type 0 where
  pub is : passes (stated f.edition (case_of f c halves zones minima devices cells)) ≡ stated_in (largest n m) s
  pub decoded : CaseRows f (take c.intervals halves) (take c.zones zones) (take (c.zones * c.intervals) minima) (take c.devices devices) (take (c.devices * c.intervals) cells)
  pub counted : Within (largest n m) c
  pub range : StatedRange (largest n m) (stated f.edition (case_of f c halves zones minima devices cells))
  pub long : Long c halves zones minima devices cells

-- what it leaves where the message is refused: its fault, with what that tells of it
pub record CaseRefused (n m : ℕ) (s : List ℕ) (x : Fault) : Type 0 where
  pub is : fails x ≡ stated_in (largest n m) s
  pub refused : Tells (case_layout (largest n m)) s x

abbrev pub CaseDone : (n m : ℕ) (s : List ℕ) (halves : List ℕ) (zones minima devices cells : List (List ℕ)) (r : Result CaseHead Fault) → Type 0
CaseDone n m s halves zones minima devices cells (Ok h) = CasePassed n m s halves zones minima devices cells h.front h.counts
CaseDone n m s halves zones minima devices cells (Err x) = CaseRefused n m s x
