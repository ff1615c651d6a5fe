-- A device's parts as the code cuts them, from a on: they lie within the tables, and their tests and windows are the model's.
use Rattle.std.specs.Prelude.{◌≡◌, Bool, true, false, not, List, [], ◌∷◌, ◌++◌, map, ℕ, suc, ◌+◌, ◌-◌, ◌*◌, ◌^◌, ◌≤◌, ◌<◌, T, leb, get_or, length, take, drop}
use Rattle.std.proofs.Math.Path.{refl}
use Rattle.std.proofs.Common.{sym, ap, ◌∙◌, arith, mul-le-mul}
use Rattle.std.proofs.lemmas.Bool.{not-true, not-false}
use Rattle.numbers.specs.Base.{up_to, gather}
use Rattle.numbers.specs.Every.{all-up_to}
use Rattle.numbers.specs.Gather.{gather_cong}
use Rattle.model.specs.Case.{System, Plan}
use Rattle.model.specs.Forced as F
use Rattle.model.specs.Rules.{cell_breach, window_breach}
use Rattle.model.specs.Breaches.{failing, real_tests, reactive_tests, cell_tests, cell_breaches, one_window, window_breaches}
use Rattle.model.specs.declared.Breach.{Breach}
use Rattle.row_places.specs.Figures.{device_of}
use Rattle.numbers.specs.Parts.{part, part_cut, part-inside, part-long}
use Rattle.records.specs.Views.{system_in, plan_in, most_windows, most_devices, most_intervals, Ready}
use Rattle.records.specs.Viewed as W
use Rattle.records.specs.Ranged.{start-order}
use Rattle.row_places.specs.Figures.{no_start}
use Rattle.row_places.specs.declared.Device.{Device}
use Rattle.row_places.specs.declared.Front.{Front}
use Rattle.cell_bounds.specs.declared.Bounds.{Bounds}
use Rattle.cell_bounds.specs.Word.{failing_word, numbers_in, rising, word_below, both_bits, all_hold, parts_held}
use Rattle.cell_bounds.specs.Tests.{bounds_of}
use Rattle.moments.specs.Moments.{tests_at, tests-rise-here, Fits}
use Rattle.device_rules.specs.Tie.{tests-here, fits-here}
use Rattle.device_rules.specs.Whole.{AllFit, HeldTo}
use Rattle.reactive_rules.specs.declared.ReactiveBounds.{ReactiveBounds}
use Rattle.reactive_rules.specs.Rules.{reactive_bounds_of, reactive_tests_at, reactive-rise, ReactiveFits, AllReactiveFit, ReactiveHeldTo}
use Rattle.reactive_rules.specs.Tie.{reactive-tests-here, reactive-fits-here, own-cells}
use Rattle.start_windows.specs.Windows.{Timed, starts_at, starts-are}

-- what is made of nothing
unmapped : {A B : Type 0} (f : A → B) (l : List A) → map f l ≡ [] → l ≡ []
unmapped f [] e = refl
unmapped f (a ∷ l) e = absurd (let z : ◌≡◌ {A = ℕ} 0 1 = cc in omega (arith, z))

-- ---- rule 20 of a device's windows

module _ (d : Device) (settings : List (List ℕ)) (starts : List ℕ) (i : ℕ) where
  abbrev counted : ℕ → ℕ
  counted w = starts_at (get_or d.starts w no_start) d.on0 settings starts

  unfoldable pub window_here : ℕ → List Breach
  window_here w = map (window_breach i w) (failing ((20, leb (counted w) (get_or d.starts w no_start).most) ∷ []))

  unfoldable pub windows_here : List Breach
  windows_here = gather window_here (up_to d.nstarts)

-- ---- places

pub record Place (a m : ℕ) (cells settings : List (List ℕ)) (powers : List ℕ) : Type 0 where
  pub in_cells : a + m ≤ length cells
  pub in-settings : a + m ≤ length settings
  pub in-powers : a + m ≤ length powers
  pub small : a + m ≤ most_devices * most_intervals

module _ {front : Front} {halves : List ℕ} {zones minima devices cells settings : List (List ℕ)} {starts powers : List ℕ}
    (ready : Ready front halves zones minima devices cells settings starts powers) (i a : ℕ) (l : i < length devices) (e : a ≡ i * length halves) where
  pub place : Place a (length halves) cells settings powers
  place = let h = part-inside (length halves) i (length devices) l in record {
    in_cells = omega (arith, h, ready.case_rows.cells-full);
    in-settings = omega (arith, h, ready.plan-rows.full);
    in-powers = omega (arith, h, ready.forced-rows.powers-full);
    small = omega (arith, h, mul-le-mul ready.case_rows.few-devices ready.case_rows.few-intervals);
  }

  abbrev q : System
  q = system_in halves zones minima devices cells

  abbrev p : Plan
  p = plan_in (length devices) (length halves) settings

  abbrev m : ℕ
  m = length halves

  abbrev own_cells : List (List ℕ)
  own_cells = take (a + length halves - a) (drop a cells)

  abbrev own_settings : List (List ℕ)
  own_settings = take (a + length halves - a) (drop a settings)

  abbrev own_powers : List ℕ
  own_powers = take (a + length halves - a) (drop a powers)

  module _ {d : Device} {b : Bounds} (is : d ≡ device_of (get_or devices i [])) (at : b ≡ bounds_of d) where
    pub fits_cut : (t : ℕ) → t < length halves → Fits b d.power0.0 halves own_cells own_settings starts own_powers t
    fits_cut t h = rw (at, is, part_cut m i a cells e, part_cut m i a settings e, part_cut m i a powers e) (fits-here ready i l t h)

    pub all_fit : AllFit b d.power0.0 halves own_cells own_settings starts own_powers
    all_fit = record { at = fits_cut }

    tests-cut : (t : ℕ) → t < length halves → tests_at b d.power0.0 halves own_cells own_settings starts own_powers t ≡ real_tests q p t i
    tests-cut t h = rw (at, is, part_cut m i a cells e, part_cut m i a settings e, part_cut m i a powers e) (tests-here ready i l t h)

    -- a cell without a breach fails no test
    cell_holds : (t : ℕ) → cell_breaches q p t i ≡ [] → (failing (real_tests q p t i) ≡ []) × (failing (reactive_tests q p t i) ≡ [])
    unfolding cell_breaches cell_tests
    cell_holds t h = parts_held (real_tests q p t i) (reactive_tests q p t i) (unmapped (cell_breach t i) (failing (real_tests q p t i ++ reactive_tests q p t i)) h)

    pub here-held : ((t : ℕ) → t < length halves → cell_breaches q p t i ≡ []) → HeldTo b d.power0.0 halves own_cells own_settings starts own_powers (length halves)
    here-held k = record { at = λ t h. rw (tests-cut t h) (cell_holds t (k t h)).0 }

    module _ {r : ReactiveBounds} (known : r ≡ reactive_bounds_of d) where
      pub reactive-fits-cut : (t : ℕ) → t < length halves → ReactiveFits r own_cells own_settings starts own_powers t
      reactive-fits-cut t h = rw (known, is, part_cut m i a cells e, part_cut m i a settings e, part_cut m i a powers e) (reactive-fits-here ready i l t h)

      cells-long : length own_cells ≡ length halves
      cells-long = rw (part_cut m i a cells e) (own-cells ready i l)

      pub all-reactive-fit : AllReactiveFit r own_cells own_settings starts own_powers
      all-reactive-fit = record { at = λ t h. reactive-fits-cut t (omega (arith, cells-long)) }

      reactive-cut : (t : ℕ) → t < length halves → reactive_tests_at r own_cells own_settings starts own_powers t ≡ reactive_tests q p t i
      reactive-cut t h = rw (known, is, part_cut m i a cells e, part_cut m i a settings e, part_cut m i a powers e) (reactive-tests-here ready i l t h)

      module _ (t : ℕ) (h : t < length halves) {real reactive : ℕ} (x : real ≡ failing_word (tests_at b d.power0.0 halves own_cells own_settings starts own_powers t))
          (y : reactive ≡ failing_word (reactive_tests_at r own_cells own_settings starts own_powers t)) where
        abbrev reals : List (ℕ × Bool)
        reals = tests_at b d.power0.0 halves own_cells own_settings starts own_powers t

        abbrev reactives : List (ℕ × Bool)
        reactives = reactive_tests_at r own_cells own_settings starts own_powers t

        reals-rise : T (rising 0 20 reals)
        reals-rise = tests-rise-here b d.power0.0 halves own_cells own_settings starts own_powers t

        reactives-rise : T (rising 20 27 reactives)
        reactives-rise = reactive-rise r own_cells own_settings starts own_powers t

        -- both words fit one
        pub words_small : real + reactive < 2 ^ 32
        words_small = omega (arith, x, y, word_below 0 20 reals (omega arith) reals-rise, word_below 20 27 reactives (omega arith) reactives-rise)

        -- its numbers are those of the cell's failing tests
        pub word-numbers : numbers_in (real + reactive) ≡ failing (cell_tests q p t i)
        unfolding cell_tests
        word-numbers = rw (x, y, ← tests-cut t h, ← reactive-cut t h) (both_bits 20 27 reals reactives (omega arith) (omega arith) reals-rise reactives-rise)

      pub here-reactive : ((t : ℕ) → t < length halves → cell_breaches q p t i ≡ []) → ReactiveHeldTo r own_cells own_settings starts own_powers (length own_cells)
      here-reactive k = record { at = λ t h. let j : t < length halves = omega (arith, cells-long) in rw (reactive-cut t j) (cell_holds t (k t j)).1 }

      -- no test fails
      pub none_here : HeldTo b d.power0.0 halves own_cells own_settings starts own_powers (length halves) → ReactiveHeldTo r own_cells own_settings starts own_powers (length own_cells)
          → (t : ℕ) → t < length halves → cell_breaches q p t i ≡ []
      unfolding cell_breaches cell_tests
      none_here k g t h = rw (all_hold (real_tests q p t i) (reactive_tests q p t i) (rw (tests-cut t h) at (k.at t h)) (rw (reactive-cut t h) at (g.at t (omega (arith, cells-long))))) refl

  abbrev there : Device
  there = device_of (get_or devices i [])

  here-is : (w : ℕ) → w < there.nstarts → window_here there (part m i settings) starts i w ≡ one_window q p i w
  unfolding window_here one_window
  here-is w h = rw (starts-are ready i l w h, W.start-window-is halves zones minima devices cells i l w h) refl

  all_here : windows_here there (part m i settings) starts i ≡ window_breaches q p i
  unfolding windows_here window_breaches
  all_here = rw (W.start-windows-are halves zones minima devices cells i l (ready.case_rows.counted i l).few-starts)
      (gather_cong (window_here there (part m i settings) starts i) (one_window q p i) (up_to there.nstarts) (all-up_to _ _ here-is))

  -- the device's windows in turn
  pub windows-are : {d : Device} → d ≡ device_of (get_or devices i []) → windows_here d own_settings starts i ≡ window_breaches q p i
  windows-are is = rw (is, part_cut m i a settings e) all_here

  own-long : length own_settings ≡ length halves
  own-long = rw (part_cut m i a settings e) (part-long m i (length devices) settings l ready.plan-rows.full)

  pub own-timed : Timed own_settings starts
  own-timed = record {
    few = omega (arith, own-long, ready.case_rows.few-intervals);
    timed = omega (arith, own-long, ready.forced-rows.starts-full);
    rising = λ b t h k. start-order ready b t h (omega (arith, own-long));
  }

  pub few-windows : {d : Device} → d ≡ device_of (get_or devices i []) → d.nstarts ≤ most_windows
  few-windows is = rw is (ready.case_rows.counted i l).few-starts
