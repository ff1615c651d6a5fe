-- Rules 21 to 26 of a device, out of its parts of the tables: the tests of interval t, those of a device without reactive figures, and of all intervals.
use Rattle.std.specs.Prelude.{◌≡◌, Bool, true, false, List, [], ℕ, ◌+◌, ◌*◌, ◌≤◌, ◌<◌, T, leb, eqb, get_or, length, pos, ◌+ℤ◌, ◌-ℤ◌, ◌*ℤ◌}
use Rattle.std.proofs.Math.Path.{refl}
use Rattle.std.proofs.Common.{sym, ap, ap₂, ◌∙◌, arith, mul-le-mul, le_refl, le-leb}
use Rattle.std.proofs.Math.Decide.{dec_le}
use Rattle.std.specs.Int.Signed.{le_z}
use Rattle.bits.specs.Pick.{pick}
use Rattle.model.specs.Rules.{highest, lowest}
use Rattle.model.specs.Breaches.{failing}
use Rattle.kilovars.specs.Reactive.{kvar_offset}
use Rattle.kilowatts.specs.Power.{kw}
use Rattle.row_places.specs.declared.Device.{Device}
use Rattle.row_places.specs.declared.Link.{Link}
use Rattle.row_places.specs.declared.Reactive.{Reactive}
use Rattle.row_places.specs.declared.ReactiveCell.{ReactiveCell}
use Rattle.row_places.specs.Figures.{reactive_at, reactive_cell_at}
use Rattle.records.specs.Views.{less, link_in, reactive_in, reactive_limits_in, most_power}
use Rattle.ramped_powers.specs.Changes.{ramping_of}
use Rattle.brackets.specs.Counts.{bracket_at, power_at, Countable}
use Rattle.cell_bounds.specs.Word.{failing_word, rising, word_none}
use Rattle.reactive_tests.specs.Order.{below-limit, above-limit}
use Rattle.reactive_tests.specs.Tests.{tests, tests-rise, limit_tests, line_tests, equality_tests, most_bracket, LinkSized, LimitsSized, ReactiveSized, Sized}
use Rattle.reactive_rules.specs.declared.ReactiveBounds.{ReactiveBounds}

-- what the reactive rules of a device's intervals read of it
abbrev pub reactive_bounds_of : Device → ReactiveBounds
reactive_bounds_of d = record { side = d.side; link = d.link; ramping = ramping_of d }

module _ (d : ReactiveBounds) (cells settings : List (List ℕ)) (starts powers : List ℕ) (t : ℕ) where
  -- the tests of interval t
  unfoldable pub reactive_tests_at : List (ℕ × Bool)
  reactive_tests_at = tests (eqb d.side 1) (bracket_at d.ramping cells settings starts t) (get_or powers t 0) (link_in d.link) (reactive_limits_in (reactive_cell_at cells t))
      (reactive_in (reactive_at settings t))

  pub reactive-rise : T (rising 20 27 reactive_tests_at)
  unfolding reactive_tests_at
  reactive-rise = tests-rise _ _ _ _ _ _

  -- t is an interval of the parts, its figures have the sizes that the code relies on, and its power is the parts'
  pub record ReactiveFits : Type 0 where
    pub countable : Countable d.ramping cells settings starts
    pub in_cells : t < length cells
    pub in-powers : t < length powers
    pub power : get_or powers t 0 ≤ most_power
    pub whole : get_or powers t 0 ≡ power_at d.ramping cells settings starts t
    pub link : LinkSized d.link
    pub limits : LimitsSized (reactive_cell_at cells t)
    pub reactive : ReactiveSized (reactive_at settings t)

-- ---- nothing reactive: no link, no reactive power, no reserve, and limits on either side of 0

pub record Idle (kind : ℕ) (c : ReactiveCell) (x : Reactive) : Type 0 where
  pub unlinked : kind ≡ 0
  pub q : x.q.0 ≡ kvar_offset
  pub qru : x.qru.0 ≡ 0
  pub qrd : x.qrd.0 ≡ 0
  pub below : c.qmin.0 ≤ kvar_offset
  pub above : kvar_offset ≤ c.qmax.0

either-none : (b : Bool) (x y : ℕ) → x ≡ 0 → y ≡ 0 → pick b x y ≡ 0
either-none true x y e f = e
either-none false x y e f = f

module _ (l : Link) {c : ReactiveCell} {x : Reactive} (h : Idle l.kind c x) (consuming : Bool) (n p : ℕ) where
  idle-below : le_z (highest consuming (reactive_in x)) (less kvar_offset c.qmax.0 *ℤ pos n) ≡ true
  idle-below =
      let up = pick consuming x.qrd.0 x.qru.0 in
      sym (below-limit x.q.0 up c.qmax.0 n)
      ∙ le-leb (x.q.0 + up + kvar_offset * n) (c.qmax.0 * n + kvar_offset)
      (omega (arith, h.q, either-none consuming x.qrd.0 x.qru.0 h.qrd h.qru, mul-le-mul h.above (le_refl n)))

  idle-above : le_z (less kvar_offset c.qmin.0 *ℤ pos n) (lowest consuming (reactive_in x)) ≡ true
  idle-above =
      let down = pick consuming x.qru.0 x.qrd.0 in
      sym (above-limit x.q.0 down c.qmin.0 n)
      ∙ le-leb (c.qmin.0 * n + kvar_offset + down) (x.q.0 + kvar_offset * n)
      (omega (arith, h.q, either-none consuming x.qru.0 x.qrd.0 h.qru h.qrd, mul-le-mul h.below (le_refl n)))

  -- each of the six holds, whatever n is
  idle-holds : failing_word (tests consuming n p (link_in l) (reactive_limits_in c) (reactive_in x)) ≡ 0
  unfolding tests limit_tests line_tests equality_tests failing_word
  idle-holds = rw (idle-below, idle-above, h.unlinked) refl

-- ---- by what the code reads of the rows

pub idle-here : (d : ReactiveBounds) (cells settings : List (List ℕ)) (starts powers : List ℕ) (t : ℕ) → Idle d.link.kind (reactive_cell_at cells t) (reactive_at settings t)
    → 0 ≡ failing_word (reactive_tests_at d cells settings starts powers t)
unfolding reactive_tests_at
idle-here d cells settings starts powers t h = sym (idle-holds d.link h (eqb d.side 1) (bracket_at d.ramping cells settings starts t) (get_or powers t 0))

module _ (d : ReactiveBounds) (cells settings : List (List ℕ)) (starts powers : List ℕ) (t : ℕ) {c : ReactiveCell} {x : Reactive}
    (e : c ≡ reactive_cell_at cells t) (f : x ≡ reactive_at settings t) where
  pub tests-here : {n : ℕ} → n ≡ bracket_at d.ramping cells settings starts t
      → tests (eqb d.side 1) n (get_or powers t 0) (link_in d.link) (reactive_limits_in c) (reactive_in x) ≡ reactive_tests_at d cells settings starts powers t
  unfolding reactive_tests_at
  tests-here g = rw (e, f, g) refl

  pub sized-here : {n : ℕ} → n ≤ most_bracket → ReactiveFits d cells settings starts powers t → Sized n (get_or powers t 0) d.link c x
  sized-here g h = record { bracket = g; power = h.power; link = h.link; limits = rw e h.limits; reactive = rw f h.reactive }

-- ---- all intervals of a device

module _ (d : ReactiveBounds) (cells settings : List (List ℕ)) (starts powers : List ℕ) where
  pub record AllReactiveFit : Type 0 where
    pub at : (t : ℕ) → t < length cells → ReactiveFits d cells settings starts powers t

  -- in the intervals below n every test holds
  pub record ReactiveHeldTo (n : ℕ) : Type 0 where
    pub at : (t : ℕ) → t < n → failing (reactive_tests_at d cells settings starts powers t) ≡ []

  pub reactive-none : ReactiveHeldTo 0
  reactive-none = record { at = λ t h. absurd (omega arith) }

  pub reactive-next : {n : ℕ} → ReactiveHeldTo n → failing (reactive_tests_at d cells settings starts powers n) ≡ [] → ReactiveHeldTo (n + 1)
  reactive-next {n} h e = record { at = λ t l. go t l (dec_le n t) }
    where
      go : (t : ℕ) → t < n + 1 → Dec (n ≤ t) → failing (reactive_tests_at d cells settings starts powers t) ≡ []
      go t l (yes x) = let s : t ≡ n = omega arith in rw s e
      go t l (no x) = h.at t (omega arith)
