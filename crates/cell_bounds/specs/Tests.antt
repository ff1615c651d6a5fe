-- The numbered tests of one device in one interval, over its records: one list, which `failing_word` and `failing` go by.
use Rattle.std.specs.Prelude.{◌≡◌, Bool, ◌&&◌, List, [], ◌∷◌, ◌++◌, ℕ, ◌+◌, ◌-◌, ◌*◌, ◌≤◌, T, leb, ltb, eqb, get_or, pos, ◌-ℤ◌}
use native.Mathlib.Omega.{arith}
use Rattle.std.specs.Int.Signed.{le_z}
use Rattle.bits.specs.Pick.{pick}
use Rattle.numbers.specs.Base.{implies}
use Rattle.kilowatts.specs.Power.{kw}
use Rattle.kilowatts.specs.declared.Kw.{Kw}
use Rattle.records.specs.Views.{most_power, last_minute}
use Rattle.row_places.specs.declared.Cell.{Cell}
use Rattle.row_places.specs.declared.Device.{Device}
use Rattle.row_places.specs.declared.Reserves.{Reserves}
use Rattle.row_places.specs.declared.Setting.{Setting}
use Rattle.cell_bounds.specs.declared.Bounds.{Bounds}
use Rattle.cell_bounds.specs.declared.Moment.{Moment}
use Rattle.cell_bounds.specs.Sign.{may_rise, may_fall}
use Rattle.cell_bounds.specs.Word.{failing_word, word-append, rising}

abbrev pub limits_of : List Kw → Reserves
limits_of l = record {
  rgu = get_or l 0 (kw 0);
  rgd = get_or l 1 (kw 0);
  scr = get_or l 2 (kw 0);
  nsc = get_or l 3 (kw 0);
  rruon = get_or l 4 (kw 0);
  rruoff = get_or l 5 (kw 0);
  rrdon = get_or l 6 (kw 0);
  rrdoff = get_or l 7 (kw 0);
}

abbrev pub bounds_of : Device → Bounds
bounds_of d = record {
  side = d.side;
  on0 = d.on0;
  minutes0 = d.minutes0;
  minup = d.minup;
  mindown = d.mindown;
  up = get_or d.ramps 0 0;
  down = get_or d.ramps 1 0;
  starting = get_or d.ramps 2 0;
  stopping = get_or d.ramps 3 0;
  limits = limits_of d.limits;
}

abbrev pub consumes : Bounds → Bool
consumes d = eqb d.side 1

-- the cap or the floor of a block, and the sum of the four
abbrev pub of_block : List Kw → ℕ → ℕ
of_block powers k = (get_or powers k (kw 0)).0

abbrev pub sum_of : List Kw → ℕ
sum_of powers = of_block powers 0 + of_block powers 1 + of_block powers 2 + of_block powers 3

-- sums of reserves
module _ (s : Setting) where
  abbrev pub ups : ℕ
  ups = s.reserves.rgu.0 + s.reserves.scr.0 + s.reserves.rruon.0

  abbrev pub downs : ℕ
  downs = s.reserves.rgd.0 + s.reserves.rrdon.0

  abbrev pub off_ups : ℕ
  off_ups = s.reserves.nsc.0 + s.reserves.rruoff.0

-- psu+psd: the power that is not online
abbrev pub forced : Setting → Moment → ℕ
forced s w = w.power.0 - s.online.0

module _ (d : Bounds) (c : Cell) (s : Setting) (w : Moment) where
  unfoldable pub state_tests : List (ℕ × Bool)
  state_tests =
      (1, implies (eqb c.status 1) (eqb s.on 1) && implies (eqb c.status 2) (eqb s.on 0)) ∷
      (2, implies (ltb (w.start + d.minutes0) (pick (eqb d.on0 1) d.minup d.mindown)) (eqb s.on d.on0)) ∷
      (3, w.rested) ∷
      (4, w.ran) ∷ []

  unfoldable pub ramp_tests : List (ℕ × Bool)
  ramp_tests =
      (5, le_z (pos w.power.0 -ℤ pos w.previous.0) (may_rise w.minutes d.up d.starting s.on w.started)) ∷
      (6, le_z (pos w.previous.0 -ℤ pos w.power.0) (may_fall w.minutes d.down d.stopping s.on)) ∷ []

  unfoldable pub on_tests : List (ℕ × Bool)
  on_tests =
      (7, leb s.reserves.rgu.0 (d.limits.rgu.0 * s.on)) ∷
      (8, leb s.reserves.rgd.0 (d.limits.rgd.0 * s.on)) ∷
      (9, leb (s.reserves.rgu.0 + s.reserves.scr.0) (d.limits.scr.0 * s.on)) ∷
      (10, leb (ups s) (d.limits.rruon.0 * s.on)) ∷
      (11, leb (downs s) (d.limits.rrdon.0 * s.on)) ∷ []

  unfoldable pub off_tests : List (ℕ × Bool)
  off_tests =
      (12, leb s.reserves.nsc.0 (d.limits.nsc.0 * (1 - s.on))) ∷
      (13, leb (off_ups s) (d.limits.rruoff.0 * (1 - s.on))) ∷
      (14, leb s.reserves.rrdoff.0 (d.limits.rrdoff.0 * (1 - s.on))) ∷
      (15, eqb (pick (consumes d) (off_ups s) s.reserves.rrdoff.0) 0) ∷ []

  unfoldable pub power_tests : List (ℕ × Bool)
  power_tests =
      (16, leb (s.online.0 + pick (consumes d) (downs s) (ups s)) (c.pmax.0 * s.on)) ∷
      (17, le_z (pos (c.pmin.0 * s.on)) (pos s.online.0 -ℤ pos (pick (consumes d) (ups s) (downs s)))) ∷
      (18, leb (forced s w + pick (consumes d) s.reserves.rrdoff.0 (off_ups s)) (c.pmax.0 * (1 - s.on))) ∷
      (19, leb (s.on * sum_of c.floors) w.power.0 && leb w.power.0 (sum_of c.caps)) ∷ []

  unfoldable pub tests : List (ℕ × Bool)
  tests = state_tests ++ (ramp_tests ++ (on_tests ++ (off_tests ++ power_tests)))

  pub tests-word : failing_word tests ≡ failing_word state_tests + failing_word ramp_tests + failing_word on_tests + failing_word off_tests + failing_word power_tests
  unfolding tests
  tests-word =
      omega (
        arith,
        word-append state_tests (ramp_tests ++ (on_tests ++ (off_tests ++ power_tests))),
        word-append ramp_tests (on_tests ++ (off_tests ++ power_tests)),
        word-append on_tests (off_tests ++ power_tests),
        word-append off_tests power_tests,
      )

  pub tests-rise : T (rising 0 20 tests)
  unfolding tests state_tests ramp_tests on_tests off_tests power_tests rising
  tests-rise = tt

-- the sizes that the code relies on
pub record Sized (c : Cell) (s : Setting) (w : Moment) : Type 0 where
  pub on : s.on ≤ 1
  pub started : w.started ≤ s.on
  pub rgu : s.reserves.rgu.0 ≤ 100000
  pub rgd : s.reserves.rgd.0 ≤ 100000
  pub scr : s.reserves.scr.0 ≤ 100000
  pub nsc : s.reserves.nsc.0 ≤ 100000
  pub rruon : s.reserves.rruon.0 ≤ 100000
  pub rruoff : s.reserves.rruoff.0 ≤ 100000
  pub rrdon : s.reserves.rrdon.0 ≤ 100000
  pub rrdoff : s.reserves.rrdoff.0 ≤ 100000
  pub online : s.online.0 ≤ 100000
  pub pmin : c.pmin.0 ≤ 100000
  pub cap0 : of_block c.caps 0 ≤ 100000
  pub cap1 : of_block c.caps 1 ≤ 100000
  pub cap2 : of_block c.caps 2 ≤ 100000
  pub cap3 : of_block c.caps 3 ≤ 100000
  pub floor0 : of_block c.floors 0 ≤ 100000
  pub floor1 : of_block c.floors 1 ≤ 100000
  pub floor2 : of_block c.floors 2 ≤ 100000
  pub floor3 : of_block c.floors 3 ≤ 100000
  pub power : w.power.0 ≤ most_power
  pub previous : w.previous.0 ≤ most_power
  pub minutes : w.minutes ≤ 360
  pub start : w.start ≤ last_minute

pub record Small (d : Bounds) : Type 0 where
  pub up : d.up ≤ 100000
  pub down : d.down ≤ 100000
  pub starting : d.starting ≤ 100000
  pub stopping : d.stopping ≤ 100000
  pub minutes0 : d.minutes0 ≤ 60000
