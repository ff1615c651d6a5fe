-- The tests of interval t by groups, each over records of its own that are the interval's.
use Rattle.std.specs.Prelude.{◌≡◌, List, [], ℕ}
use Rattle.model.specs.Breaches.{failing}
use Rattle.row_places.specs.declared.Cell.{Cell}
use Rattle.row_places.specs.declared.Setting.{Setting}
use Rattle.cell_bounds.specs.declared.Bounds.{Bounds}
use Rattle.cell_bounds.specs.declared.Moment.{Moment}
use Rattle.cell_bounds.specs.Tests.{state_tests, ramp_tests, on_tests, off_tests, power_tests}
use Rattle.cell_held.specs.Held.{Groups, groups, tests-hold}
use Rattle.moments.specs.Moments.{cell_here, setting_here, moment_at, tests_at}

module _ (d : Bounds) (power0 : ℕ) (halves : List ℕ) (cells settings : List (List ℕ)) (starts powers : List ℕ) (t : ℕ) where
  abbrev cell : Cell
  cell = cell_here d power0 halves cells settings starts powers t

  abbrev setting : Setting
  setting = setting_here d power0 halves cells settings starts powers t

  abbrev moment : Moment
  moment = moment_at d power0 halves cells settings starts powers t

  module _ {c : Cell} {s : Setting} {w : Moment} (e : c ≡ cell) (f : s ≡ setting) (g : w ≡ moment) where
    pub groups-here : failing (tests_at d power0 halves cells settings starts powers t) ≡ [] → Groups d c s w
    unfolding tests_at
    groups-here h = rw (e, f, g) (groups d cell setting moment h)

    pub state-here : failing (state_tests d c s w) ≡ [] → failing (state_tests d cell setting moment) ≡ []
    state-here h = rw (e, f, g) at h

    pub ramps-here : failing (ramp_tests d c s w) ≡ [] → failing (ramp_tests d cell setting moment) ≡ []
    ramps-here h = rw (e, f, g) at h

    pub amounts-here : (failing (on_tests d c s w) ≡ []) × (failing (off_tests d c s w) ≡ []) × (failing (power_tests d c s w) ≡ [])
        → failing (state_tests d cell setting moment) ≡ [] → failing (ramp_tests d cell setting moment) ≡ []
        → failing (tests_at d power0 halves cells settings starts powers t) ≡ []
    unfolding tests_at
    amounts-here h a b =
        let k : (failing (on_tests d cell setting moment) ≡ []) × (failing (off_tests d cell setting moment) ≡ []) × (failing (power_tests d cell setting moment) ≡ []) = rw (e, f, g) at h in
        tests-hold d cell setting moment a b k.0 k.1 k.2
