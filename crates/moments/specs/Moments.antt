-- The figures that the rules of a device's interval compare, out of its parts of the tables.
use Rattle.std.specs.Prelude.{◌≡◌, refl, Bool, true, false, List, [], ℕ, ◌*◌, ◌≤◌, ◌<◌, T, eqb, get_or, length}
use Rattle.numbers.specs.Base.{implies}
use Rattle.kilowatts.specs.Power.{kw}
use Rattle.row_places.specs.Figures.{cell_of, setting_of, started_at, stopped_at, previous_at}
use Rattle.row_places.specs.declared.Cell.{Cell}
use Rattle.row_places.specs.declared.Setting.{Setting}
use Rattle.cell_bounds.specs.declared.Bounds.{Bounds}
use Rattle.cell_bounds.specs.declared.Moment.{Moment}
use Rattle.cell_bounds.specs.Word.{rising}
use Rattle.cell_bounds.specs.Tests.{tests, tests-rise, Sized, Small}
use Rattle.rests.specs.declared.Rest.{Rest}
use Rattle.rests.specs.Apart.{Rising, apart_at}

-- the changes that rule 3 and rule 4 look back for
abbrev pub stops_of : Bounds → Rest
stops_of d = record { starts = false; least = d.mindown; on0 = d.on0 }

abbrev pub starts_of : Bounds → Rest
starts_of d = record { starts = true; least = d.minup; on0 = d.on0 }

module _ (d : Bounds) (power0 : ℕ) (halves : List ℕ) (cells settings : List (List ℕ)) (starts powers : List ℕ) (t : ℕ) where
  unfoldable pub moment_at : Moment
  moment_at = record {
    started = started_at d.on0 settings t;
    rested = implies (eqb (started_at d.on0 settings t) 1) (apart_at (stops_of d) settings starts t);
    ran = implies (eqb (stopped_at d.on0 settings t) 1) (apart_at (starts_of d) settings starts t);
    start = get_or starts t 0;
    minutes = 2 * get_or halves t 0;
    power = kw (get_or powers t 0);
    previous = kw (previous_at power0 powers t);
  }

  abbrev pub cell_here : Cell
  cell_here = cell_of (get_or cells t [])

  abbrev pub setting_here : Setting
  setting_here = setting_of (get_or settings t [])

  -- the tests of interval t
  unfoldable pub tests_at : List (ℕ × Bool)
  tests_at = tests d cell_here setting_here moment_at

  pub tests-rise-here : T (rising 0 20 tests_at)
  unfolding tests_at
  tests-rise-here = tests-rise d cell_here setting_here moment_at

  -- t is an interval of the parts, and its figures have the sizes that the code relies on
  pub record Fits : Type 0 where
    pub in_halves : t < length halves
    pub in_cells : t < length cells
    pub in-settings : t < length settings
    pub in-starts : t < length starts
    pub in-powers : t < length powers
    pub half : get_or halves t 0 ≤ 180
    pub rising : Rising starts t
    pub sized : Sized cell_here setting_here moment_at
    pub small : Small d

-- records that are equal to those
module _ {c c' : Cell} {s s' : Setting} {w w' : Moment} (e : c ≡ c') (f : s ≡ s') (g : w ≡ w') where
  pub same-sizes : Sized c' s' w' → Sized c s w
  same-sizes h = rw (e, f, g) h

  pub same_tests : (d : Bounds) → tests d c s w ≡ tests d c' s' w'
  same_tests d = rw (e, f, g) refl
