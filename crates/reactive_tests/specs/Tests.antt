-- The numbered tests of reactive power of one device in one interval, over what its records say: one list, which `failing_word` and `failing` go by.
use Rattle.std.specs.Prelude.{◌≡◌, Bool, true, false, ◌&&◌, List, [], ◌∷◌, ◌++◌, ℕ, suc, ◌+◌, ◌*◌, ◌≤◌, T, eqb, pos, ◌*ℤ◌}
use Rattle.std.proofs.Math.Path.{refl}
use Rattle.std.proofs.Common.{arith}
use Rattle.std.specs.Int.Signed.{le_z}
use Rattle.numbers.specs.Base.{implies}
use Rattle.model.specs.Case as M
use Rattle.model.specs.Rules.{highest, lowest, on_line, two_lines, equality}
use Rattle.model.specs.Breaches.{eq_z}
use Rattle.kilovars.specs.Reactive.{kvar_offset}
use Rattle.records.specs.Views.{most_intervals, most_power, slope_offset}
use Rattle.row_places.specs.declared.Line.{Line}
use Rattle.row_places.specs.declared.Link.{Link}
use Rattle.row_places.specs.declared.Reactive.{Reactive}
use Rattle.row_places.specs.declared.ReactiveCell.{ReactiveCell}
use Rattle.cell_bounds.specs.Word.{failing_word, word-append, rising}

-- on, and at most one trajectory for each start and each stop
abbrev pub most_bracket : ℕ
most_bracket = 1 + 2 * most_intervals

module _ (consuming : Bool) (n p : ℕ) (link : M.Link) (c : M.ReactiveLimits) (x : M.Reactive) where
  unfoldable pub limit_tests : List (ℕ × Bool)
  limit_tests =
      (21, le_z (highest consuming x) (c.qmax *ℤ pos n)) ∷
      (22, le_z (c.qmin *ℤ pos n) (lowest consuming x)) ∷ []

  unfoldable pub line_tests : List (ℕ × Bool)
  line_tests =
      (23, implies (eqb link.kind two_lines) (le_z (pos 1000 *ℤ highest consuming x) (on_line link.upper n p))) ∷
      (24, implies (eqb link.kind two_lines) (le_z (on_line link.lower n p) (pos 1000 *ℤ lowest consuming x))) ∷ []

  unfoldable pub equality_tests : List (ℕ × Bool)
  equality_tests =
      (25, implies (eqb link.kind equality) (eq_z (pos 1000 *ℤ x.q) (on_line link.upper n p))) ∷
      (26, implies (eqb link.kind equality) (eqb x.qru 0 && eqb x.qrd 0)) ∷ []

  unfoldable pub tests : List (ℕ × Bool)
  tests = limit_tests ++ (line_tests ++ equality_tests)

  pub tests-word : failing_word tests ≡ failing_word limit_tests + failing_word line_tests + failing_word equality_tests
  unfolding tests
  tests-word = omega (arith, word-append limit_tests (line_tests ++ equality_tests), word-append line_tests equality_tests)

  pub tests-rise : T (rising 20 27 tests)
  unfolding tests limit_tests line_tests equality_tests rising
  tests-rise = tt

  -- a link of another kind
  pub no_lines : eqb link.kind two_lines ≡ false → failing_word line_tests ≡ 0
  unfolding line_tests failing_word
  no_lines e = rw e refl

  pub no-equality : eqb link.kind equality ≡ false → failing_word equality_tests ≡ 0
  unfolding equality_tests failing_word
  no-equality e = rw e refl

-- the sizes that the code relies on
pub record LineSized (l : Line) : Type 0 where
  pub offset : l.offset.0 ≤ 2 * kvar_offset
  pub slope : l.slope ≤ 2 * slope_offset

pub record LinkSized (l : Link) : Type 0 where
  pub upper : LineSized l.upper
  pub lower : LineSized l.lower

pub record LimitsSized (c : ReactiveCell) : Type 0 where
  pub qmin : c.qmin.0 ≤ 2 * kvar_offset
  pub qmax : c.qmax.0 ≤ 2 * kvar_offset

pub record ReactiveSized (x : Reactive) : Type 0 where
  pub q : x.q.0 ≤ 2 * kvar_offset
  pub qru : x.qru.0 ≤ 100000
  pub qrd : x.qrd.0 ≤ 100000

pub record Sized (n p : ℕ) (l : Link) (c : ReactiveCell) (x : Reactive) : Type 0 where
  pub bracket : n ≤ most_bracket
  pub power : p ≤ most_power
  pub link : LinkSized l
  pub limits : LimitsSized c
  pub reactive : ReactiveSized x
