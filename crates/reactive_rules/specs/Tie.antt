-- The reactive tests of a device's interval are the model's. `reactive-tests-are` is the one law that knows the model's list of them.
use Rattle.std.specs.Prelude.{◌≡◌, refl, List, [], ℕ, ◌+◌, ◌*◌, ◌≤◌, ◌<◌, get_or, length, nat_abs}
use Rattle.std.proofs.Common.{sym, subst, ◌∙◌, arith}
use Rattle.std.proofs.Math.Path.{ap}
use Rattle.model.specs.Case as M
use Rattle.model.specs.Case.{System, Plan}
use Rattle.model.specs.Forced as F
use Rattle.model.specs.Breaches.{reactive_tests}
use Rattle.ranges.specs.Kept.{kept_small}
use Rattle.ranges.specs.Ranges.{LineRange}
use Rattle.numbers.specs.Parts.{part, part-long}
use Rattle.kilovars.specs.Reactive.{kvar_offset}
use Rattle.row_places.specs.declared.Device.{Device}
use Rattle.row_places.specs.declared.Front.{Front}
use Rattle.row_places.specs.declared.Line.{Line}
use Rattle.row_places.specs.Figures.{device_of, reactive_at, reactive_cell_at}
use Rattle.records.specs.Views.{less, system_in, plan_in, cell_in, setting_in, line_in, slope_offset, Ready}
use Rattle.records.specs.Viewed as W
use Rattle.records.specs.Ranged as G
use Rattle.brackets.specs.Tied.{bracket-here, power-here, countable-here}
use Rattle.reactive_tests.specs.Tests.{tests, limit_tests, line_tests, equality_tests, LineSized}
use Rattle.reactive_rules.specs.Rules.{reactive_bounds_of, reactive_tests_at, ReactiveFits}

reactive-tests-are : (q : System) (p : Plan) (t i : ℕ)
    → tests (F.consuming q i) (F.bracket q p t i) (F.power q p t i) (F.device q i).link (F.cell q t i).reactive (F.setting q p t i).reactive ≡ reactive_tests q p t i
unfolding tests limit_tests line_tests equality_tests reactive_tests
reactive-tests-are q p t i = refl

kept : (v : ℕ) → nat_abs (less kvar_offset v) ≤ kvar_offset → v ≤ 2 * kvar_offset
kept v h = omega (arith, kept_small kvar_offset v h)

line-sized : (l : Line) → LineRange (line_in l) → LineSized l
line-sized l r = record { offset = kept l.offset.0 r.offset; slope = omega (arith, kept_small slope_offset l.slope r.slope) }

module _ {front : Front} {halves : List ℕ} {zones minima devices cells settings : List (List ℕ)} {starts powers : List ℕ}
    (ready : Ready front halves zones minima devices cells settings starts powers) (i : ℕ) (l : i < length devices) where
  abbrev q : System
  q = system_in halves zones minima devices cells

  abbrev p : Plan
  p = plan_in (length devices) (length halves) settings

  abbrev d : Device
  d = device_of (get_or devices i [])

  abbrev own_cells : List (List ℕ)
  own_cells = part (length halves) i cells

  abbrev own_settings : List (List ℕ)
  own_settings = part (length halves) i settings

  abbrev own_powers : List ℕ
  own_powers = part (length halves) i powers

  pub own-cells : length own_cells ≡ length halves
  own-cells = part-long (length halves) i (length devices) cells l ready.case_rows.cells-full

  module _ (t : ℕ) (h : t < length halves) where
    cell-is : F.cell q t i ≡ cell_in (get_or own_cells t [])
    cell-is = G.cell-here ready.case_rows i l t h

    setting-is : F.setting q p t i ≡ setting_in (get_or own_settings t [])
    setting-is = W.setting-is (length devices) (length halves) settings q t i h l

    -- the tests of the parts are the model's
    pub reactive-tests-here : reactive_tests_at (reactive_bounds_of d) own_cells own_settings starts own_powers t ≡ reactive_tests q p t i
    unfolding reactive_tests_at
    reactive-tests-here =
        rw (
          ← W.consuming-is halves zones minima devices cells i l,
          bracket-here ready i l t h,
          G.power-at ready i l t h,
          ← W.link-is halves zones minima devices cells i l,
          ← ap (λ (x : M.Cell). x.reactive) cell-is,
          ← ap (λ (x : M.Setting). x.reactive) setting-is,
        ) (reactive-tests-are q p t i)

    pub reactive-fits-here : ReactiveFits (reactive_bounds_of d) own_cells own_settings starts own_powers t
    reactive-fits-here =
        let k = G.link-range ready.case_rows i l in
        let c = (G.cell-range ready.case_rows i l t h).reactive in
        let s = (G.setting-range ready.plan-rows i t l h).reactive in
        record {
          countable = countable-here ready i l;
          in_cells = omega (arith, own-cells);
          in-powers = omega (arith, part-long (length halves) i (length devices) powers l ready.forced-rows.powers-full);
          power = G.power_small ready i l t h;
          whole = G.power-at ready i l t h ∙ sym (power-here ready i l t h);
          link = record { upper = line-sized d.link.upper k.upper; lower = line-sized d.link.lower k.lower };
          limits = record { qmin = kept (reactive_cell_at own_cells t).qmin.0 c.qmin; qmax = kept (reactive_cell_at own_cells t).qmax.0 c.qmax };
          reactive = record { q = kept (reactive_at own_settings t).q.0 s.q; qru = s.qru; qrd = s.qrd };
        }
