-- The bounds of rules 23 to 25 over the records, and the naturals that the code narrows by.
use Rattle.std.specs.Prelude.{◌≡◌, Bool, List, [], ◌∷◌, ◌++◌, ℕ, ◌+◌, ◌-◌, ◌*◌, ◌≤◌, ◌<◌, eqb, ℤ, pos, ◌+ℤ◌, ◌-ℤ◌, ◌*ℤ◌}
use Rattle.std.proofs.Math.Path.{refl, ap, ap₂}
use Rattle.std.proofs.Common.{◌∙◌, arith}
use borrow.Author.Tests.{ne_eqb}
use Rattle.bits.specs.Pick.{pick}
use Rattle.numbers.specs.Z.{Ex, nat, ◌⊕◌, ◌⊝◌, ◌⊗◌, neg, by≡}
use Rattle.spans.specs.declared.Span.{Span}
use Rattle.spans.specs.Spans.{Bound, narrow, within, least, most}
use Rattle.model.specs.Rules.{highest, lowest, on_line, two_lines, equality}
use Rattle.mending_theorems.specs.Bounds.{line_above, line_below}
use Rattle.kilovars.specs.Reactive.{kvar_offset}
use Rattle.records.specs.Views.{less, slope_offset, line_in, reactive_in}
use Rattle.row_places.specs.declared.Line.{Line}
use Rattle.row_places.specs.declared.Link.{Link}
use Rattle.row_places.specs.declared.Reactive.{Reactive}
use Rattle.reactive_tests.specs.Order.{line_level, own_level}

-- a bound whose slope is kept from 0
abbrev pub sloped_by : ℕ → ℕ → ℕ → Bound
sloped_by slope x y = record { slope = less slope_offset slope; least = pos x -ℤ pos y }

abbrev pub below_line : Line → ℕ → ℕ → ℕ → ℕ → Bound
below_line l n a q down = line_below (line_in l) n a (pos 1000 *ℤ (less kvar_offset q -ℤ pos down))

abbrev pub above_line : Line → ℕ → ℕ → ℕ → ℕ → Bound
above_line l n a q up = line_above (line_in l) n a (pos 1000 *ℤ (less kvar_offset q +ℤ pos up))

-- the bounds of a link: two lines, an equality, or none
module _ (consuming : Bool) (n a : ℕ) (link : Link) (x : Reactive) where
  abbrev pub two_line_bounds_of : List Bound
  two_line_bounds_of =
      line_above (line_in link.upper) n a (pos 1000 *ℤ highest consuming (reactive_in x)) ∷
      line_below (line_in link.lower) n a (pos 1000 *ℤ lowest consuming (reactive_in x)) ∷ []

  abbrev pub equality_bounds_of : List Bound
  equality_bounds_of = line_above (line_in link.upper) n a (pos 1000 *ℤ (reactive_in x).q) ∷ line_below (line_in link.upper) n a (pos 1000 *ℤ (reactive_in x).q) ∷ []

  unfoldable pub line_bounds_of : List Bound
  line_bounds_of = pick (eqb link.kind two_lines) two_line_bounds_of [] ++ pick (eqb link.kind equality) equality_bounds_of []

-- ---- a slope kept from 0

module _ (s : Span) (slope x y : ℕ) {r : Span} where
  pub rising-line : r ≡ narrow s (least (slope - slope_offset) x y) → slope_offset ≤ slope → r ≡ narrow s (sloped_by slope x y)
  rising-line e h = e ∙ ap (λ (z : ℤ). narrow s (record { slope = z; least = pos x -ℤ pos y })) (by≡ (nat (slope - slope_offset)) (nat slope ⊝ nat slope_offset) (omega arith))

  pub falling-line : r ≡ narrow s (most (slope_offset - slope) x y) → slope < slope_offset → r ≡ narrow s (sloped_by slope x y)
  falling-line e h = e ∙ ap (λ (z : ℤ). narrow s (record { slope = z; least = pos x -ℤ pos y })) (by≡ (neg (nat (slope_offset - slope))) (nat slope ⊝ nat slope_offset) (omega arith))

-- ---- a line and a reactive power on one level

abbrev kvars : ℕ → Ex
kvars v = nat v ⊝ nat kvar_offset

abbrev line : Line → ℕ → ℕ → Ex
line l n p = nat 1000 ⊗ (kvars l.offset.0 ⊗ nat n) ⊕ (nat l.slope ⊝ nat slope_offset) ⊗ nat p

bound-as : (slope slope' z z' : ℤ) → slope ≡ slope' → z ≡ z' → ◌≡◌ {A = Bound} (record { slope = slope; least = z }) (record { slope = slope'; least = z' })
bound-as slope slope' z z' e f = ap₂ (λ (a b : ℤ). record { slope = a; least = b }) e f

module _ (s : Span) (l : Line) (n a q reserve : ℕ) {x y : ℕ} {r : Span} where
  pub above-done : x ≡ own_level (q + reserve) n a → y ≡ line_level l n a → r ≡ narrow s (sloped_by l.slope x y) → r ≡ narrow s (above_line l n a q reserve)
  unfolding on_line
  above-done e f h = h ∙ ap (narrow s) (bound-as _ _ _ _ refl
      (rw (e, f) (by≡ (nat (own_level (q + reserve) n a) ⊝ nat (line_level l n a)) (nat 1000 ⊗ (kvars q ⊕ nat reserve) ⊝ line l n a) (omega arith))))

  pub below-done : l.slope ≤ 2 * slope_offset → x ≡ line_level l n a + 1000 * reserve → y ≡ own_level q n a → r ≡ narrow s (sloped_by (2 * slope_offset - l.slope) x y) → r ≡ narrow s
      (below_line l n a q reserve)
  unfolding on_line
  below-done g e f h = h ∙ ap (narrow s) (bound-as _ _ _ _
      (by≡ (nat (2 * slope_offset - l.slope) ⊝ nat slope_offset) (neg (nat l.slope ⊝ nat slope_offset)) (omega arith))
      (rw (e, f) (by≡ (nat (line_level l n a + 1000 * reserve) ⊝ nat (own_level q n a)) (line l n a ⊝ nat 1000 ⊗ (kvars q ⊝ nat reserve)) (omega arith))))

-- ---- a link

module _ (s : Span) (consuming : Bool) (n a : ℕ) (link : Link) (x : Reactive) where
  pub two-lines-done : {up down : ℕ} {first r : Span} → link.kind ≡ two_lines → up ≡ pick consuming x.qrd.0 x.qru.0 → down ≡ pick consuming x.qru.0 x.qrd.0
      → first ≡ narrow s (above_line link.upper n a x.q.0 up) → r ≡ narrow first (below_line link.lower n a x.q.0 down) → r ≡ within s (line_bounds_of consuming n a link x)
  unfolding line_bounds_of within
  two-lines-done {up} {down} e f g h k = rw (e, ← f, ← g) (k ∙ ap (λ (y : Span). narrow y (below_line link.lower n a x.q.0 down)) h)

  same_above : above_line link.upper n a x.q.0 0 ≡ line_above (line_in link.upper) n a (pos 1000 *ℤ (reactive_in x).q)
  same_above = ap (λ (z : ℤ). line_above (line_in link.upper) n a (pos 1000 *ℤ z)) (by≡ (kvars x.q.0 ⊕ nat 0) (kvars x.q.0) (omega arith))

  same-below : below_line link.upper n a x.q.0 0 ≡ line_below (line_in link.upper) n a (pos 1000 *ℤ (reactive_in x).q)
  same-below = ap (λ (z : ℤ). line_below (line_in link.upper) n a (pos 1000 *ℤ z)) (by≡ (kvars x.q.0 ⊝ nat 0) (kvars x.q.0) (omega arith))

  pub equality-done : {first r : Span} → link.kind ≡ equality → first ≡ narrow s (above_line link.upper n a x.q.0 0) → r ≡ narrow first (below_line link.upper n a x.q.0 0)
      → r ≡ within s (line_bounds_of consuming n a link x)
  unfolding line_bounds_of within
  equality-done e h k = rw e (k ∙ ap₂ narrow (h ∙ ap (narrow s) same_above) same-below)

  pub unlinked-done : (link.kind ≡ two_lines → ⊥) → (link.kind ≡ equality → ⊥) → s ≡ within s (line_bounds_of consuming n a link x)
  unfolding line_bounds_of within
  unlinked-done e f = rw (ne_eqb link.kind two_lines e, ne_eqb link.kind equality f) refl
