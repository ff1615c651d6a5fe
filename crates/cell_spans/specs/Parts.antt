-- The bounds of a device's interval, out of its parts of the tables.
use Rattle.std.specs.Prelude.{◌≡◌, List, [], ◌++◌, ℕ, ◌+◌, ◌-◌, ◌≤◌, ◌<◌, eqb, ltb, get_or, length}
use Rattle.std.proofs.Math.Path.{refl, sym, ap, ap₂}
use Rattle.std.proofs.Common.{◌∙◌, lt-ltb, le-ltb}
use Rattle.bits.specs.Pick.{pick}
use Rattle.spans.specs.declared.Span.{Span}
use Rattle.spans.specs.Spans.{Bound, whole, within, within-append}
use Rattle.mending.specs.Mending.{most_online}
use Rattle.row_places.specs.declared.Cell.{Cell}
use Rattle.row_places.specs.declared.Setting.{Setting}
use Rattle.row_places.specs.declared.Reactive.{Reactive}
use Rattle.row_places.specs.Figures.{reactive_at, online_at}
use Rattle.cell_bounds.specs.declared.Bounds.{Bounds}
use Rattle.cell_bounds.specs.declared.Moment.{Moment}
use Rattle.moments.specs.Moments.{moment_at, cell_here, setting_here, Fits}
use Rattle.brackets.specs.Counts.{bracket_at}
use Rattle.reactive_rules.specs.declared.ReactiveBounds.{ReactiveBounds}
use Rattle.reactive_rules.specs.Rules.{ReactiveFits}
use Rattle.power_spans.specs.Bounds.{ramp_bounds_of, next_bounds_of, reserve_bounds_of, block_bounds_of}
use Rattle.line_spans.specs.Lines.{line_bounds_of}

-- rules 5 and 6, 16, 17 and 19
abbrev pub real_bounds_of : Bounds → Cell → Setting → Moment → List Bound
real_bounds_of d c s w = ramp_bounds_of d s w ++ (reserve_bounds_of d s w c ++ block_bounds_of d s w c)

module _ (d : Bounds) (power0 : ℕ) (halves : List ℕ) (cells settings : List (List ℕ)) (starts powers : List ℕ) (t : ℕ) where
  abbrev pub moment_here : Moment
  moment_here = moment_at d power0 halves cells settings starts powers t

  abbrev pub setting_here' : Setting
  setting_here' = setting_here d power0 halves cells settings starts powers t

  unfoldable pub real_bounds_at : List Bound
  real_bounds_at = real_bounds_of d (cell_here d power0 halves cells settings starts powers t) setting_here' moment_here

  unfoldable pub next_bounds_at : ℕ → List Bound
  next_bounds_at a = next_bounds_of d setting_here' moment_here a

  pub real-done : {c : Cell} {s : Setting} {w : Moment} {all ramps reserves r : Span} → all ≡ whole 100000 → c ≡ cell_here d power0 halves cells settings starts powers t → s ≡
      setting_here' → w ≡ moment_here
      → ramps ≡ within all (ramp_bounds_of d s w) → reserves ≡ within ramps (reserve_bounds_of d s w c) → r ≡ within reserves (block_bounds_of d s w c)
      → r ≡ within (whole most_online) real_bounds_at
  unfolding real_bounds_at most_online
  real-done {c} {s} {w} o e f g h j k = rw (← e, ← f, ← g) (k ∙ ap (λ (x : Span). within x (block_bounds_of d s w c))
      (j ∙ ap (λ (x : Span). within x (reserve_bounds_of d s w c)) (h ∙ ap (λ (x : Span). within x (ramp_bounds_of d s w)) o))
      ∙ sym (within-append (ramp_bounds_of d s w) (reserve_bounds_of d s w c ++ block_bounds_of d s w c) (whole most_online) ∙ within-append (reserve_bounds_of d s w c) (block_bounds_of d s w c) _))

  pub next-done : (span : Span) (a : ℕ) {s : Setting} {w : Moment} {r : Span} → s ≡ setting_here' → w ≡ moment_here → r ≡ within span (next_bounds_of d s w a) → r ≡ within span (next_bounds_at a)
  unfolding next_bounds_at
  next-done span a f g h = h ∙ ap₂ (λ (s : Setting) (w : Moment). within span (next_bounds_of d s w a)) f g

module _ (d : ReactiveBounds) (cells settings : List (List ℕ)) (starts powers : List ℕ) (t : ℕ) where
  unfoldable pub line_bounds_at : List Bound
  line_bounds_at = line_bounds_of (eqb d.side 1) (bracket_at d.ramping cells settings starts t) (get_or powers t 0 - online_at settings t) d.link (reactive_at settings t)

  pub lines-done : (span : Span) {n a : ℕ} {x : Reactive} {r : Span} → n ≡ bracket_at d.ramping cells settings starts t → a ≡ get_or powers t 0 - online_at settings t → x ≡ reactive_at settings t
      → r ≡ within span (line_bounds_of (eqb d.side 1) n a d.link x) → r ≡ within span line_bounds_at
  unfolding line_bounds_at
  lines-done span {n} {a} {x} e f g h = rw (← e, ← f, ← g) h

-- the span of interval t
module _ (d : Bounds) (r : ReactiveBounds) (power0 : ℕ) (halves : List ℕ) (cells settings : List (List ℕ)) (starts powers : List ℕ) (t : ℕ) where
  abbrev a : ℕ
  a = get_or powers t 0 - online_at settings t

  unfoldable pub parts_span : Span
  parts_span = within (within (within (whole most_online) (real_bounds_at d power0 halves cells settings starts powers t)) (line_bounds_at r cells settings starts powers t))
      (pick (ltb (t + 1) (length halves)) (next_bounds_at d power0 halves cells settings starts powers (t + 1) a) [])

  -- the figures of interval t, and of the next where there is one, have their sizes
  pub record SpanFits : Type 0 where
    pub here : Fits d power0 halves cells settings starts powers t
    pub reactive : ReactiveFits r cells settings starts powers t
    pub next : t + 1 < length halves → Fits d power0 halves cells settings starts powers (t + 1)

  pub span-next : {x y z : Span} {b : ℕ} → x ≡ within (whole most_online) (real_bounds_at d power0 halves cells settings starts powers t) → y ≡ within x (line_bounds_at r cells settings starts powers t)
      → t + 1 < length halves → b ≡ a → z ≡ within y (next_bounds_at d power0 halves cells settings starts powers (t + 1) b) → z ≡ parts_span
  unfolding parts_span
  span-next {x} {y} {z} {b} e f k g h = rw (lt-ltb (t + 1) (length halves) k, ← g, ← e, ← f) h

  pub span_last : {x y : Span} → x ≡ within (whole most_online) (real_bounds_at d power0 halves cells settings starts powers t) → y ≡ within x (line_bounds_at r cells settings starts powers t)
      → length halves ≤ t + 1 → y ≡ parts_span
  unfolding parts_span within
  span_last {x} {y} e f k = rw (le-ltb (t + 1) (length halves) k, ← e, ← f) refl
