-- The tests of a device's interval are the model's of real power. `tests-are` is the one law that knows the model's list of them.
use Rattle.std.specs.Prelude.{◌≡◌, List, [], ◌∷◌, ℕ, ◌+◌, ◌-◌, ◌*◌, ◌≤◌, ◌<◌, eqb, ltb, get_or, length}
use Rattle.std.proofs.Math.Path.{refl, sym}
use Rattle.std.proofs.Common.{ap, ◌∙◌, mul-zero, mul-add, lt-ltb, le-ltb, eq-eqb, ne_eqb}
use native.Mathlib.Omega.{arith}
use Rattle.std.proofs.Math.Decide.{dec_le}
use Rattle.numbers.specs.Sum.{sumℕ}
use Rattle.numbers.specs.Base.{range, up_to, implies, bit}
use Rattle.numbers.specs.Every.{all-up_to, every-cong}
use Rattle.model.specs.Case as M
use Rattle.model.specs.Case.{System, Plan}
use Rattle.model.specs.Forced as F
use Rattle.model.specs.Rules as R
use Rattle.model.specs.Breaches.{apart, first_tests, real_tests}
use Rattle.row_places.specs.Figures.{cell_of, setting_of, device_of, started_at, stopped_at, previous_at, on_at, on_before}
use Rattle.numbers.specs.Parts.{part, part-long}
use Rattle.records.specs.Views.{system_in, plan_in, device_in, cell_in, setting_in, most_power, Ready}
use Rattle.records.specs.Viewed as W
use Rattle.records.specs.Ranged as G
use Rattle.kilowatts.specs.Power.{kw}
use Rattle.row_places.specs.declared.Cell.{Cell}
use Rattle.row_places.specs.declared.Device.{Device}
use Rattle.row_places.specs.declared.Front.{Front}
use Rattle.row_places.specs.declared.Setting.{Setting}
use Rattle.cell_bounds.specs.declared.Bounds.{Bounds}
use Rattle.cell_bounds.specs.declared.Moment.{Moment}
use Rattle.cell_bounds.specs.Tests.{bounds_of, sum_of, tests, state_tests, ramp_tests, on_tests, off_tests, power_tests, Sized}
use Rattle.rests.specs.Apart.{apart_at}
use Rattle.moments.specs.Moments.{stops_of, starts_of, moment_at, tests_at, Fits}

-- ---- the figures that the model's tests compare, by the records' names

sumℕ-times : (n : ℕ) (f : ℕ → ℕ) (ks : List ℕ) → n * sumℕ f ks ≡ sumℕ (λ k. n * f k) ks
sumℕ-times n f [] = mul-zero n
sumℕ-times n f (k ∷ ks) = mul-add n (f k) (sumℕ f ks) ∙ ap (λ (m : ℕ). n * f k + m) (sumℕ-times n f ks)

module _ (q : System) (p : Plan) (t i : ℕ) where
  pub record OfDevice (d : Bounds) : Type 0 where
    pub side : d.side ≡ (F.device q i).side
    pub on0 : d.on0 ≡ (F.device q i).on0
    pub minutes0 : d.minutes0 ≡ (F.device q i).minutes0
    pub minup : d.minup ≡ (F.device q i).min_up
    pub mindown : d.mindown ≡ (F.device q i).min_down
    pub up : d.up ≡ (F.device q i).ramps.up
    pub down : d.down ≡ (F.device q i).ramps.down
    pub starting : d.starting ≡ (F.device q i).ramps.starting
    pub stopping : d.stopping ≡ (F.device q i).ramps.stopping
    pub rgu : d.limits.rgu.0 ≡ (F.device q i).limits.rgu
    pub rgd : d.limits.rgd.0 ≡ (F.device q i).limits.rgd
    pub scr : d.limits.scr.0 ≡ (F.device q i).limits.scr
    pub nsc : d.limits.nsc.0 ≡ (F.device q i).limits.nsc
    pub rruon : d.limits.rruon.0 ≡ (F.device q i).limits.rru_on
    pub rruoff : d.limits.rruoff.0 ≡ (F.device q i).limits.rru_off
    pub rrdon : d.limits.rrdon.0 ≡ (F.device q i).limits.rrd_on
    pub rrdoff : d.limits.rrdoff.0 ≡ (F.device q i).limits.rrd_off

  pub record OfCell (c : Cell) : Type 0 where
    pub status : c.status ≡ (F.cell q t i).status
    pub pmin : c.pmin.0 ≡ (F.cell q t i).pmin
    pub pmax : c.pmax.0 ≡ (F.cell q t i).pmax
    pub room : sum_of c.caps ≡ sumℕ (F.cap q t i) R.blocks
    pub floors : sum_of c.floors ≡ sumℕ (F.floor q t i) R.blocks

  pub record OfSetting (s : Setting) : Type 0 where
    pub on : s.on ≡ F.u q p t i
    pub online : s.online.0 ≡ (F.setting q p t i).online
    pub rgu : s.reserves.rgu.0 ≡ (F.setting q p t i).reserves.rgu
    pub rgd : s.reserves.rgd.0 ≡ (F.setting q p t i).reserves.rgd
    pub scr : s.reserves.scr.0 ≡ (F.setting q p t i).reserves.scr
    pub nsc : s.reserves.nsc.0 ≡ (F.setting q p t i).reserves.nsc
    pub rruon : s.reserves.rruon.0 ≡ (F.setting q p t i).reserves.rru_on
    pub rruoff : s.reserves.rruoff.0 ≡ (F.setting q p t i).reserves.rru_off
    pub rrdon : s.reserves.rrdon.0 ≡ (F.setting q p t i).reserves.rrd_on
    pub rrdoff : s.reserves.rrdoff.0 ≡ (F.setting q p t i).reserves.rrd_off

  pub record OfMoment (w : Moment) : Type 0 where
    pub started : w.started ≡ F.su q p t i
    pub rested : w.rested ≡ implies (eqb (F.su q p t i) 1) (apart q p t i (F.device q i).min_down (F.sd q p))
    pub ran : w.ran ≡ implies (eqb (F.sd q p t i) 1) (apart q p t i (F.device q i).min_up (F.su q p))
    pub start : w.start ≡ F.start_of q t
    pub minutes : w.minutes ≡ F.duration q t
    pub power : w.power.0 ≡ F.power q p t i
    pub previous : w.previous.0 ≡ F.previous q p t i

  forced-is : {power online : ℕ} → power ≡ F.power q p t i → online ≡ (F.setting q p t i).online → power - online ≡ F.psu q p t i + F.psd q p t i
  unfolding F.power
  forced-is e f = omega arith

  -- the floors bind while on, all or none
  floors-bind : F.u q p t i * sumℕ (F.floor q t i) R.blocks ≡ sumℕ (F.least q p t i) R.blocks
  unfolding F.least
  floors-bind = sumℕ-times (F.u q p t i) (F.floor q t i) R.blocks

  pub tests-are : {d : Bounds} {c : Cell} {s : Setting} {w : Moment} → OfDevice d → OfCell c → OfSetting s → OfMoment w → tests d c s w ≡ real_tests q p t i
  unfolding tests state_tests ramp_tests on_tests off_tests power_tests first_tests real_tests R.initial_minimum R.may_rise R.may_fall
  tests-are {d} {c} {s} {w} a b e f = rw (
    forced-is f.power e.online,
    a.side,
    a.on0,
    a.minutes0,
    a.minup,
    a.mindown,
    a.up,
    a.down,
    a.starting,
    a.stopping,
    a.rgu,
    a.rgd,
    a.scr,
    a.nsc,
    a.rruon,
    a.rruoff,
    a.rrdon,
    a.rrdoff,
    b.status,
    b.pmin,
    b.pmax,
    b.room,
    b.floors,
    e.on,
    floors-bind,
    e.online,
    e.rgu,
    e.rgd,
    e.scr,
    e.nsc,
    e.rruon,
    e.rruoff,
    e.rrdon,
    e.rrdoff,
    f.started,
    f.rested,
    f.ran,
    f.start,
    f.minutes,
    f.power,
    f.previous,
  ) refl

-- ---- a decoded case and plan

rises : (a b : ℕ) → bit (ltb a b) ≤ b
rises a b = go (dec_le b a)
  where
    go : Dec (b ≤ a) → bit (ltb a b) ≤ b
    go (yes x) = rw (le-ltb a b x) (omega arith)
    go (no x) = rw (lt-ltb a b (omega arith)) (omega arith)

module _ {front : Front} {halves : List ℕ} {zones minima devices cells settings : List (List ℕ)} {starts powers : List ℕ}
    (ready : Ready front halves zones minima devices cells settings starts powers) (i : ℕ) (l : i < length devices) where
  abbrev pub q : System
  q = system_in halves zones minima devices cells

  abbrev pub p : Plan
  p = plan_in (length devices) (length halves) settings

  abbrev m : ℕ
  m = length halves

  abbrev d : Device
  d = device_of (get_or devices i [])

  abbrev own_cells : List (List ℕ)
  own_cells = part (length halves) i cells

  abbrev own_settings : List (List ℕ)
  own_settings = part (length halves) i settings

  abbrev own_powers : List ℕ
  own_powers = part (length halves) i powers

  figure : {A : Type 0} (f : M.Device → A) → f (F.device q i) ≡ f (device_in d own_cells)
  figure f = W.device-figure halves zones minima devices cells i l f

  module _ (t : ℕ) (h : t < length halves) where
    pub of-device : OfDevice q p t i (bounds_of d)
    unfolding device_in
    of-device = record {
      side = sym (figure (λ x. x.side));
      on0 = sym (figure (λ x. x.on0));
      minutes0 = sym (figure (λ x. x.minutes0));
      minup = sym (figure (λ x. x.min_up));
      mindown = sym (figure (λ x. x.min_down));
      up = sym (figure (λ x. x.ramps.up));
      down = sym (figure (λ x. x.ramps.down));
      starting = sym (figure (λ x. x.ramps.starting));
      stopping = sym (figure (λ x. x.ramps.stopping));
      rgu = sym (figure (λ x. x.limits.rgu));
      rgd = sym (figure (λ x. x.limits.rgd));
      scr = sym (figure (λ x. x.limits.scr));
      nsc = sym (figure (λ x. x.limits.nsc));
      rruon = sym (figure (λ x. x.limits.rru_on));
      rruoff = sym (figure (λ x. x.limits.rru_off));
      rrdon = sym (figure (λ x. x.limits.rrd_on));
      rrdoff = sym (figure (λ x. x.limits.rrd_off));
    }

    abbrev row : List ℕ
    row = get_or own_cells t []

    room-is : sum_of (cell_of row).caps ≡ sumℕ (F.cap q t i) R.blocks
    unfolding range
    room-is =
        let c = G.cap-at ready.case_rows i l t h in
        omega (arith, c 0 (omega arith), c 1 (omega arith), c 2 (omega arith), c 3 (omega arith))

    floors-are : sum_of (cell_of row).floors ≡ sumℕ (F.floor q t i) R.blocks
    unfolding range
    floors-are =
        let f = G.floor-at ready.case_rows i l t h in
        omega (arith, f 0 (omega arith), f 1 (omega arith), f 2 (omega arith), f 3 (omega arith))

    pub of-cell : OfCell q p t i (cell_of row)
    of-cell =
        let e : F.cell q t i ≡ cell_in row = G.cell-here ready.case_rows i l t h in
        record {
          status = sym (ap (λ (x : M.Cell). x.status) e);
          pmin = sym (ap (λ (x : M.Cell). x.pmin) e);
          pmax = sym (ap (λ (x : M.Cell). x.pmax) e);
          room = room-is;
          floors = floors-are;
        }

    pub of-setting : OfSetting q p t i (setting_of (get_or own_settings t []))
    of-setting =
        let e : F.setting q p t i ≡ setting_in (get_or own_settings t []) = W.setting-is (length devices) (length halves) settings q t i h l in
        record {
          on = sym (W.on-is (length devices) (length halves) settings q t i h l);
          online = sym (ap (λ (x : M.Setting). x.online) e);
          rgu = sym (ap (λ (x : M.Setting). x.reserves.rgu) e);
          rgd = sym (ap (λ (x : M.Setting). x.reserves.rgd) e);
          scr = sym (ap (λ (x : M.Setting). x.reserves.scr) e);
          nsc = sym (ap (λ (x : M.Setting). x.reserves.nsc) e);
          rruon = sym (ap (λ (x : M.Setting). x.reserves.rru_on) e);
          rruoff = sym (ap (λ (x : M.Setting). x.reserves.rru_off) e);
          rrdon = sym (ap (λ (x : M.Setting). x.reserves.rrd_on) e);
          rrdoff = sym (ap (λ (x : M.Setting). x.reserves.rrd_off) e);
        }

    started : (t : ℕ) → t < length halves → started_at d.on0 own_settings t ≡ F.su q p t i
    started t h = sym (W.started-is halves zones minima devices cells settings t i h l)

    stopped : (t : ℕ) → t < length halves → stopped_at d.on0 own_settings t ≡ F.sd q p t i
    stopped t h = sym (W.stopped-is halves zones minima devices cells settings t i h l)

    start : (t : ℕ) → t < length halves → get_or starts t 0 ≡ F.start_of q t
    start t h = ready.forced-rows.start t (omega arith)

    -- rule 3's earlier stops, rule 4's earlier starts
    stops-apart : apart_at (stops_of (bounds_of d)) own_settings starts t ≡ apart q p t i (F.device q i).min_down (F.sd q p)
    unfolding apart_at apart
    stops-apart = rw of-device.mindown (every-cong _ _ (up_to t) (all-up_to _ t (λ e b. rw (start t h, start e (omega arith), stopped e (omega arith)) refl)))

    starts_apart : apart_at (starts_of (bounds_of d)) own_settings starts t ≡ apart q p t i (F.device q i).min_up (F.su q p)
    unfolding apart_at apart
    starts_apart = rw of-device.minup (every-cong _ _ (up_to t) (all-up_to _ t (λ e b. rw (start t h, start e (omega arith), started e (omega arith)) refl)))

    pub of-moment : OfMoment q p t i (moment_at (bounds_of d) d.power0.0 halves own_cells own_settings starts own_powers t)
    unfolding moment_at
    of-moment = record {
      started = started t h;
      rested = rw (started t h, stops-apart) refl;
      ran = rw (stopped t h, starts_apart) refl;
      start = start t h;
      minutes = sym (W.duration-is halves zones minima devices cells t);
      power = G.power-at ready i l t h;
      previous = G.previous-at ready i l t h;
    }

    -- the tests of the parts are the model's
    pub tests-here : tests_at (bounds_of d) d.power0.0 halves own_cells own_settings starts own_powers t ≡ real_tests q p t i
    unfolding tests_at
    tests-here = tests-are q p t i of-device of-cell of-setting of-moment

    -- ---- sizes

    previous-small : previous_at d.power0.0 own_powers t ≤ most_power
    previous-small = go (dec_le t 0)
      where
        go : Dec (t ≤ 0) → previous_at d.power0.0 own_powers t ≤ most_power
        go (yes z) = rw (eq-eqb t 0 (omega arith)) (omega (arith, (G.device-sized ready.case_rows i l).power0))
        go (no z) = rw (ne_eqb t 0 (λ e. omega arith)) (G.power_small ready i l (t - 1) (omega arith))

    sized : Sized (cell_of row) (setting_of (get_or own_settings t [])) (moment_at (bounds_of d) d.power0.0 halves own_cells own_settings starts own_powers t)
    unfolding moment_at
    sized =
        let s = G.setting-range ready.plan-rows i t l h in
        let c = G.cell-range ready.case_rows i l t h in
        let cap = G.cap-small ready.case_rows i l t h in
        let floor : (k : ℕ) → k < 4 → (get_or (cell_of row).floors k (kw 0)).0 ≤ 100000 = λ k b. omega (arith, cap k b, G.floor-below ready.case_rows i l t h k b) in
        record {
          on = s.on;
          started = rises (on_before d.on0 own_settings t) (on_at own_settings t);
          rgu = s.reserves.rgu;
          rgd = s.reserves.rgd;
          scr = s.reserves.scr;
          nsc = s.reserves.nsc;
          rruon = s.reserves.rru_on;
          rruoff = s.reserves.rru_off;
          rrdon = s.reserves.rrd_on;
          rrdoff = s.reserves.rrd_off;
          online = s.online;
          pmin = c.pmin;
          cap0 = cap 0 (omega arith);
          cap1 = cap 1 (omega arith);
          cap2 = cap 2 (omega arith);
          cap3 = cap 3 (omega arith);
          floor0 = floor 0 (omega arith);
          floor1 = floor 1 (omega arith);
          floor2 = floor 2 (omega arith);
          floor3 = floor 3 (omega arith);
          power = G.power_small ready i l t h;
          previous = previous-small;
          minutes = omega (arith, G.half-small ready.case_rows t);
          start = ready.forced-rows.early t (omega arith);
        }

    pub fits-here : Fits (bounds_of d) d.power0.0 halves own_cells own_settings starts own_powers t
    fits-here =
        let z = G.device-sized ready.case_rows i l in
        record {
          in_halves = h;
          in_cells = omega (arith, part-long (length halves) i (length devices) cells l ready.case_rows.cells-full);
          in-settings = omega (arith, part-long (length halves) i (length devices) settings l ready.plan-rows.full);
          in-starts = omega (arith, ready.forced-rows.starts-full);
          in-powers = omega (arith, part-long (length halves) i (length devices) powers l ready.forced-rows.powers-full);
          half = G.half-small ready.case_rows t;
          rising = record { up = λ e k a b. G.start-order ready e k a (omega arith) };
          sized = sized;
          small = record { up = z.up; down = z.down; starting = z.starting; stopping = z.stopping; minutes0 = z.minutes0 };
        }
