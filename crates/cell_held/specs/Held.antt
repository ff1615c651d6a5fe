-- Rules 7 to 19 in one go, by whether the device is on: what the code compares says that each test holds, and where each holds every comparison does.
use Rattle.std.specs.Prelude.{◌≡◌, Bool, true, false, not, ◌&&◌, List, [], ◌∷◌, ◌++◌, ℕ, ◌+◌, ◌-◌, ◌*◌, ◌≤◌, leb, eqb, pos, ◌-ℤ◌}
use Rattle.std.proofs.Math.Path.{refl}
use Rattle.std.proofs.Common.{sym, ◌∙◌}
use native.Mathlib.Omega.{arith}
use borrow.Author.Tests.{not-true, not-false, le-leb, leb-true, eq-eqb, eqb-true}
use Rattle.std.specs.Int.Signed.{le_z}
use Rattle.numbers.specs.Tests.{never}
use Rattle.bits.specs.Pick.{pick}
use Rattle.model.specs.Breaches.{failing}
use Rattle.row_places.specs.declared.Cell.{Cell}
use Rattle.row_places.specs.declared.Setting.{Setting}
use Rattle.cell_bounds.specs.declared.Bounds.{Bounds}
use Rattle.cell_bounds.specs.declared.Moment.{Moment}
use Rattle.cell_bounds.specs.Sign.{moved-r, blocks-on, blocks-off}
use Rattle.cell_bounds.specs.Word.{no_test, test-holds, all_hold, each-held, parts_held}
use Rattle.cell_bounds.specs.Tests.{consumes, ups, downs, off_ups, forced, sum_of, state_tests, ramp_tests, on_tests, off_tests, power_tests, tests}

-- the code's answer: `if !rule(..) { return false; }`, or the last one
pub passed : {b test : Bool} → b ≡ test → not b ≡ false → test ≡ true
passed {b} e h = sym e ∙ not-false b h

pub passed-last : {b test : Bool} → b ≡ test → b ≡ true → test ≡ true
passed-last e h = sym e ∙ h

pub refuted : {b test : Bool} → b ≡ test → not b ≡ true → test ≡ true → false ≡ true
refuted {b} e h t = sym (not-true b h) ∙ e ∙ t

and-true-l : (a b : Bool) → (a && b) ≡ true → a ≡ true
and-true-l true b e = refl
and-true-l false b e = e

and_true_r : (a b : Bool) → (a && b) ≡ true → b ≡ true
and_true_r true b e = e
and_true_r false b e = never e

none : (x y : ℕ) → x ≡ 0 → leb x y ≡ true
none x y e = le-leb x y (omega arith)

none-by-side : (b : Bool) (x y : ℕ) → x ≡ 0 → y ≡ 0 → pick b x y ≡ 0
none-by-side true x y e h = e
none-by-side false x y e h = h

-- a limit while on, and while off
kept_on : (x l on : ℕ) → on ≡ 1 → x ≤ l → leb x (l * on) ≡ true
kept_on x l on e h = le-leb x (l * on) (rw e (omega arith))

kept_off : (x l on : ℕ) → on ≡ 0 → x ≤ l → leb x (l * (1 - on)) ≡ true
kept_off x l on e h = le-leb x (l * (1 - on)) (rw e (omega arith))

-- the same back: the limit while on, nothing while off; nothing while on, the limit while off
on-bound : (x l on : ℕ) → on ≡ 1 → leb x (l * on) ≡ true → x ≤ l
on-bound x l on e h = let k : x ≤ l * on = leb-true x (l * on) h in omega (arith, rw e at k)

off-nothing : (x l on : ℕ) → on ≡ 0 → leb x (l * on) ≡ true → x ≤ 0
off-nothing x l on e h = let k : x ≤ l * on = leb-true x (l * on) h in omega (arith, rw e at k)

off-bound : (x l on : ℕ) → on ≡ 0 → leb x (l * (1 - on)) ≡ true → x ≤ l
off-bound x l on e h = let k : x ≤ l * (1 - on) = leb-true x (l * (1 - on)) h in omega (arith, rw e at k)

on-nothing : (x l on : ℕ) → on ≡ 1 → leb x (l * (1 - on)) ≡ true → x ≤ 0
on-nothing x l on e h = let k : x ≤ l * (1 - on) = leb-true x (l * (1 - on)) h in omega (arith, rw e at k)

on-floor : (p on online low : ℕ) → on ≡ 1 → le_z (pos (p * on)) (pos online -ℤ pos low) ≡ true → p + low ≤ online
on-floor p on online low e h = let k : p * on + low ≤ online = leb-true (p * on + low) online (sym (moved-r (p * on) online low) ∙ h) in omega (arith, rw e at k)

floor-on : (p on online low : ℕ) → on ≡ 1 → p + low ≤ online → le_z (pos (p * on)) (pos online -ℤ pos low) ≡ true
floor-on p on online low e h = moved-r (p * on) online low ∙ le-leb (p * on + low) online (rw e (omega arith))

floor-off : (p on online low : ℕ) → on ≡ 0 → low ≡ 0 → le_z (pos (p * on)) (pos online -ℤ pos low) ≡ true
floor-off p on online low e z = moved-r (p * on) online low ∙ le-leb (p * on + low) online (rw e (omega arith))

module _ (d : Bounds) (c : Cell) (s : Setting) (w : Moment) where
  -- rules 7 to 15 hold, and the reserves of the other state are none
  pub record OnLimits : Type 0 where
    pub while-on : failing (on_tests d c s w) ≡ []
    pub while-off : failing (off_tests d c s w) ≡ []
    pub none : off_ups s + s.reserves.rrdoff.0 ≤ 0

  pub record OffLimits : Type 0 where
    pub while-on : failing (on_tests d c s w) ≡ []
    pub while-off : failing (off_tests d c s w) ≡ []
    pub none : ups s + downs s ≤ 0

  pub on-limits : s.on ≡ 1 → off_ups s + s.reserves.rrdoff.0 ≤ 0
      → s.reserves.rgu.0 ≤ d.limits.rgu.0 → s.reserves.rgd.0 ≤ d.limits.rgd.0 → s.reserves.rgu.0 + s.reserves.scr.0 ≤ d.limits.scr.0
      → ups s ≤ d.limits.rruon.0 → downs s ≤ d.limits.rrdon.0 → OnLimits
  unfolding on_tests off_tests
  on-limits on z a b e f g = record {
    while-on =
        test-holds 7 _ (kept_on s.reserves.rgu.0 d.limits.rgu.0 s.on on a)
        (test-holds 8 _ (kept_on s.reserves.rgd.0 d.limits.rgd.0 s.on on b)
        (test-holds 9 _ (kept_on (s.reserves.rgu.0 + s.reserves.scr.0) d.limits.scr.0 s.on on e)
        (test-holds 10 _ (kept_on (ups s) d.limits.rruon.0 s.on on f)
        (test-holds 11 _ (kept_on (downs s) d.limits.rrdon.0 s.on on g) no_test))));
    while-off =
        test-holds 12 _ (none s.reserves.nsc.0 (d.limits.nsc.0 * (1 - s.on)) (omega arith))
        (test-holds 13 _ (none (off_ups s) (d.limits.rruoff.0 * (1 - s.on)) (omega arith))
        (test-holds 14 _ (none s.reserves.rrdoff.0 (d.limits.rrdoff.0 * (1 - s.on)) (omega arith))
        (test-holds 15 _ (eq-eqb _ 0 (none-by-side (consumes d) (off_ups s) s.reserves.rrdoff.0 (omega arith) (omega arith))) no_test)));
    none = z;
  }

  pub off-limits : s.on ≡ 0 → ups s + downs s + pick (consumes d) (off_ups s) s.reserves.rrdoff.0 ≤ 0
      → s.reserves.nsc.0 ≤ d.limits.nsc.0 → off_ups s ≤ d.limits.rruoff.0 → s.reserves.rrdoff.0 ≤ d.limits.rrdoff.0 → OffLimits
  unfolding on_tests off_tests
  off-limits off z a b e = record {
    while-on =
        test-holds 7 _ (none s.reserves.rgu.0 (d.limits.rgu.0 * s.on) (omega arith))
        (test-holds 8 _ (none s.reserves.rgd.0 (d.limits.rgd.0 * s.on) (omega arith))
        (test-holds 9 _ (none (s.reserves.rgu.0 + s.reserves.scr.0) (d.limits.scr.0 * s.on) (omega arith))
        (test-holds 10 _ (none (ups s) (d.limits.rruon.0 * s.on) (omega arith))
        (test-holds 11 _ (none (downs s) (d.limits.rrdon.0 * s.on) (omega arith)) no_test))));
    while-off =
        test-holds 12 _ (kept_off s.reserves.nsc.0 d.limits.nsc.0 s.on off a)
        (test-holds 13 _ (kept_off (off_ups s) d.limits.rruoff.0 s.on off b)
        (test-holds 14 _ (kept_off s.reserves.rrdoff.0 d.limits.rrdoff.0 s.on off e)
        (test-holds 15 _ (eq-eqb (pick (consumes d) (off_ups s) s.reserves.rrdoff.0) 0 (omega arith)) no_test)));
    none = omega arith;
  }

  -- rules 16 to 19
  pub on-powers : s.on ≡ 1 → off_ups s + s.reserves.rrdoff.0 ≤ 0 → s.online.0 + pick (consumes d) (downs s) (ups s) ≤ c.pmax.0
      → c.pmin.0 + pick (consumes d) (ups s) (downs s) ≤ s.online.0 → w.power.0 ≤ s.online.0
      → leb (sum_of c.floors) w.power.0 ≡ true → leb w.power.0 (sum_of c.caps) ≡ true → failing (power_tests d c s w) ≡ []
  unfolding power_tests
  on-powers on z a b e g f =
      let y : pick (consumes d) s.reserves.rrdoff.0 (off_ups s) ≡ 0 = none-by-side (consumes d) s.reserves.rrdoff.0 (off_ups s) (omega arith) (omega arith) in
      test-holds 16 _ (kept_on (s.online.0 + pick (consumes d) (downs s) (ups s)) c.pmax.0 s.on on a)
      (test-holds 17 _ (floor-on c.pmin.0 s.on s.online.0 (pick (consumes d) (ups s) (downs s)) on b)
      (test-holds 18 _ (none (forced s w + pick (consumes d) s.reserves.rrdoff.0 (off_ups s)) (c.pmax.0 * (1 - s.on)) (omega arith))
      (test-holds 19 _ (sym (blocks-on (sum_of c.floors) w.power.0 (leb w.power.0 (sum_of c.caps)) on refl g) ∙ f) no_test)))

  pub off-powers : s.on ≡ 0 → ups s + downs s ≤ 0 → s.online.0 ≤ 0
      → w.power.0 + pick (consumes d) s.reserves.rrdoff.0 (off_ups s) ≤ c.pmax.0 → leb w.power.0 (sum_of c.caps) ≡ true
      → failing (power_tests d c s w) ≡ []
  unfolding power_tests
  off-powers off z a b f =
      let x : pick (consumes d) (ups s) (downs s) ≡ 0 = none-by-side (consumes d) (ups s) (downs s) (omega arith) (omega arith) in
      let y : pick (consumes d) (downs s) (ups s) ≡ 0 = none-by-side (consumes d) (downs s) (ups s) (omega arith) (omega arith) in
      test-holds 16 _ (none (s.online.0 + pick (consumes d) (downs s) (ups s)) (c.pmax.0 * s.on) (omega arith))
      (test-holds 17 _ (floor-off c.pmin.0 s.on s.online.0 (pick (consumes d) (ups s) (downs s)) off x)
      (test-holds 18 _ (kept_off (forced s w + pick (consumes d) s.reserves.rrdoff.0 (off_ups s)) c.pmax.0 s.on off (omega arith))
      (test-holds 19 _ (sym (blocks-off (sum_of c.floors) w.power.0 (leb w.power.0 (sum_of c.caps)) off) ∙ f) no_test)))

  -- all of them
  pub tests-hold : failing (state_tests d c s w) ≡ [] → failing (ramp_tests d c s w) ≡ [] → failing (on_tests d c s w) ≡ [] → failing (off_tests d c s w) ≡ []
      → failing (power_tests d c s w) ≡ [] → failing (tests d c s w) ≡ []
  unfolding tests
  tests-hold e f g h i = all_hold _ _ e (all_hold _ _ f (all_hold _ _ g (all_hold _ _ h i)))

  -- ---- and back

  -- the groups, where none of all fails
  pub record Groups : Type 0 where
    pub state : failing (state_tests d c s w) ≡ []
    pub ramps : failing (ramp_tests d c s w) ≡ []
    pub while-on : failing (on_tests d c s w) ≡ []
    pub while-off : failing (off_tests d c s w) ≡ []
    pub powers : failing (power_tests d c s w) ≡ []

  pub groups : failing (tests d c s w) ≡ [] → Groups
  unfolding tests
  groups h =
      let a : _ = parts_held (state_tests d c s w) (ramp_tests d c s w ++ (on_tests d c s w ++ (off_tests d c s w ++ power_tests d c s w))) h in
      let b : _ = parts_held (ramp_tests d c s w) (on_tests d c s w ++ (off_tests d c s w ++ power_tests d c s w)) a.1 in
      let e : _ = parts_held (on_tests d c s w) (off_tests d c s w ++ power_tests d c s w) b.1 in
      let f : _ = parts_held (off_tests d c s w) (power_tests d c s w) e.1 in
      record { state = a.0; ramps = b.0; while-on = e.0; while-off = f.0; powers = f.1 }

  -- rules 7 to 11 while on
  pub record OnBounds : Type 0 where
    pub rgu : s.reserves.rgu.0 ≤ d.limits.rgu.0
    pub rgd : s.reserves.rgd.0 ≤ d.limits.rgd.0
    pub scr : s.reserves.rgu.0 + s.reserves.scr.0 ≤ d.limits.scr.0
    pub up : ups s ≤ d.limits.rruon.0
    pub down : downs s ≤ d.limits.rrdon.0

  pub on-bounds : s.on ≡ 1 → failing (on_tests d c s w) ≡ [] → OnBounds
  unfolding on_tests
  on-bounds on h =
      let k : _ = each-held (on_tests d c s w) h in
      record {
        rgu = on-bound s.reserves.rgu.0 d.limits.rgu.0 s.on on k.0;
        rgd = on-bound s.reserves.rgd.0 d.limits.rgd.0 s.on on k.1.0;
        scr = on-bound (s.reserves.rgu.0 + s.reserves.scr.0) d.limits.scr.0 s.on on k.1.1.0;
        up = on-bound (ups s) d.limits.rruon.0 s.on on k.1.1.1.0;
        down = on-bound (downs s) d.limits.rrdon.0 s.on on k.1.1.1.1.0;
      }

  pub on_none : s.on ≡ 1 → failing (off_tests d c s w) ≡ [] → off_ups s + s.reserves.rrdoff.0 ≤ 0
  unfolding off_tests
  on_none on h =
      let k : _ = each-held (off_tests d c s w) h in
      omega (
        arith,
        on-nothing (off_ups s) d.limits.rruoff.0 s.on on k.1.0,
        on-nothing s.reserves.rrdoff.0 d.limits.rrdoff.0 s.on on k.1.1.0,
      )

  -- rules 12 to 15 while off
  pub record OffBounds : Type 0 where
    pub nsc : s.reserves.nsc.0 ≤ d.limits.nsc.0
    pub up : off_ups s ≤ d.limits.rruoff.0
    pub down : s.reserves.rrdoff.0 ≤ d.limits.rrdoff.0
    pub forbidden : pick (consumes d) (off_ups s) s.reserves.rrdoff.0 ≡ 0

  pub off-bounds : s.on ≡ 0 → failing (off_tests d c s w) ≡ [] → OffBounds
  unfolding off_tests
  off-bounds off h =
      let k : _ = each-held (off_tests d c s w) h in
      record {
        nsc = off-bound s.reserves.nsc.0 d.limits.nsc.0 s.on off k.0;
        up = off-bound (off_ups s) d.limits.rruoff.0 s.on off k.1.0;
        down = off-bound s.reserves.rrdoff.0 d.limits.rrdoff.0 s.on off k.1.1.0;
        forbidden = eqb-true (pick (consumes d) (off_ups s) s.reserves.rrdoff.0) 0 k.1.1.1.0;
      }

  pub off-none : s.on ≡ 0 → failing (on_tests d c s w) ≡ [] → ups s + downs s ≤ 0
  unfolding on_tests
  off-none off h =
      let k : _ = each-held (on_tests d c s w) h in
      omega (
        arith,
        off-nothing (ups s) d.limits.rruon.0 s.on off k.1.1.1.0,
        off-nothing (downs s) d.limits.rrdon.0 s.on off k.1.1.1.1.0,
      )

  -- rules 16 to 19 while on
  pub record OnPowers : Type 0 where
    pub roof : s.online.0 + pick (consumes d) (downs s) (ups s) ≤ c.pmax.0
    pub floor : c.pmin.0 + pick (consumes d) (ups s) (downs s) ≤ s.online.0
    pub whole : w.power.0 ≤ s.online.0
    pub floors : leb (sum_of c.floors) w.power.0 ≡ true
    pub caps : leb w.power.0 (sum_of c.caps) ≡ true

  pub powers-on : s.on ≡ 1 → failing (power_tests d c s w) ≡ [] → OnPowers
  unfolding power_tests
  powers-on on h =
      let k : _ = each-held (power_tests d c s w) h in
      let low : s.on * sum_of c.floors ≤ w.power.0 = leb-true (s.on * sum_of c.floors) w.power.0
      (and-true-l (leb (s.on * sum_of c.floors) w.power.0) (leb w.power.0 (sum_of c.caps)) k.1.1.1.0) in
      record {
        roof = on-bound (s.online.0 + pick (consumes d) (downs s) (ups s)) c.pmax.0 s.on on k.0;
        floor = on-floor c.pmin.0 s.on s.online.0 (pick (consumes d) (ups s) (downs s)) on k.1.0;
        whole = omega (arith, on-nothing (forced s w + pick (consumes d) s.reserves.rrdoff.0 (off_ups s)) c.pmax.0 s.on on k.1.1.0);
        floors = le-leb (sum_of c.floors) w.power.0 (omega (arith, rw on at low));
        caps = and_true_r (leb (s.on * sum_of c.floors) w.power.0) (leb w.power.0 (sum_of c.caps)) k.1.1.1.0;
      }

  -- and while off
  pub record OffPowers : Type 0 where
    pub none : s.online.0 ≤ 0
    pub roof : w.power.0 + pick (consumes d) s.reserves.rrdoff.0 (off_ups s) ≤ c.pmax.0
    pub caps : leb w.power.0 (sum_of c.caps) ≡ true

  pub powers-off : s.on ≡ 0 → failing (power_tests d c s w) ≡ [] → OffPowers
  unfolding power_tests
  powers-off off h =
      let k : _ = each-held (power_tests d c s w) h in
      let z : s.online.0 + pick (consumes d) (downs s) (ups s) ≤ 0 = off-nothing (s.online.0 + pick (consumes d) (downs s) (ups s)) c.pmax.0 s.on off k.0 in
      record {
        none = omega arith;
        roof = omega (arith, off-bound (forced s w + pick (consumes d) s.reserves.rrdoff.0 (off_ups s)) c.pmax.0 s.on off k.1.1.0);
        caps = and_true_r (leb (s.on * sum_of c.floors) w.power.0) (leb w.power.0 (sum_of c.caps)) k.1.1.1.0;
      }
