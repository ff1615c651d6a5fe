-- The bounds of an interval and device, over its records: the model's, by the records' names.
use Rattle.std.specs.Prelude.{◌≡◌, refl, List, [], ◌∷◌, ℕ, ◌+◌, ◌*◌, ◌≤◌, ◌<◌, ◌^◌, ℤ, pos, negsuc, neg_ℤ, ◌+ℤ◌, ◌-ℤ◌}
use Rattle.std.proofs.Common.{sym, ap, ◌∙◌, arith, mul-le-mul, mul-zero, mul-one, mul_comm, zero-add, add-zero}
use Rattle.bits.specs.Pick.{pick}
use Rattle.numbers.specs.Z.{nat, ◌⊕◌, ◌⊝◌, neg, by≡}
use Rattle.spans.specs.declared.Span.{Span}
use Rattle.spans.specs.Spans.{Bound, narrow, within, least, most}
use Rattle.mending_theorems.specs.Bounds.{at_most, at_least}
use Rattle.row_places.specs.declared.Cell.{Cell}
use Rattle.row_places.specs.declared.Setting.{Setting}
use Rattle.cell_bounds.specs.declared.Bounds.{Bounds}
use Rattle.cell_bounds.specs.declared.Moment.{Moment}
use Rattle.cell_bounds.specs.Sign.{may_rise, may_fall}
use Rattle.cell_bounds.specs.Tests.{consumes, sum_of, ups, downs, forced}

-- rules 5 and 6, rules 5 and 6 of the next interval at what its power a has beside its online power, and rules 16, 17 and 19
module _ (d : Bounds) (s : Setting) (w : Moment) where
  unfoldable pub ramp_bounds_of : List Bound
  ramp_bounds_of =
      at_most (may_rise w.minutes d.up d.starting s.on w.started +ℤ pos w.previous.0 -ℤ pos (forced s w)) ∷
      at_least (pos w.previous.0 -ℤ pos (forced s w) -ℤ may_fall w.minutes d.down d.stopping s.on) ∷ []

  unfoldable pub next_bounds_of : ℕ → List Bound
  next_bounds_of a =
      at_least (pos w.power.0 -ℤ pos a -ℤ may_rise w.minutes d.up d.starting s.on w.started) ∷
      at_most (may_fall w.minutes d.down d.stopping s.on +ℤ pos w.power.0 -ℤ pos a) ∷ []

  unfoldable pub reserve_bounds_of : Cell → List Bound
  reserve_bounds_of c =
      at_most (pos (c.pmax.0 * s.on) -ℤ pos (pick (consumes d) (downs s) (ups s))) ∷
      at_least (pos (c.pmin.0 * s.on) +ℤ pos (pick (consumes d) (ups s) (downs s))) ∷ []

  unfoldable pub block_bounds_of : Cell → List Bound
  block_bounds_of c =
      at_least (pos (s.on * sum_of c.floors) -ℤ pos (forced s w)) ∷
      at_most (pos (sum_of c.caps) -ℤ pos (forced s w)) ∷ []

-- ---- as the code narrows: naturals on both sides

most-is : {z : ℤ} (x y : ℕ) → z ≡ pos y -ℤ pos x → at_most z ≡ most 1 x y
most-is x y e = ap (λ (z : ℤ). record { slope = negsuc 0; least = z }) (ap neg_ℤ e ∙ by≡ (neg (nat y ⊝ nat x)) (nat x ⊝ nat y) (omega arith))

least-is : {z : ℤ} (x y : ℕ) → z ≡ pos x -ℤ pos y → at_least z ≡ least 1 x y
least-is x y e = ap (λ (z : ℤ). record { slope = pos 1; least = z }) e

-- one bound after another
two : (s : Span) {b c b' c' : Bound} {r t : Span} → b ≡ b' → c ≡ c' → r ≡ narrow s b' → t ≡ narrow r c' → t ≡ within s (b ∷ c ∷ [])
unfolding within
two s {c' = c'} e f g h = rw (e, f) (h ∙ ap (λ (x : Span). narrow x c') g)

-- ---- rules 5 and 6

small : (d k r : ℕ) → r ≡ d * k → d ≤ 360 → k ≤ 100000 → r ≤ 36000000
small d k r e h l = omega (arith, e, mul-le-mul h l)

module _ (d up st u s : ℕ) {r : ℕ} where
  pub rise-off : r ≡ d * st → u ≡ 0 → s ≡ 0 → d ≤ 360 → st ≤ 100000 → (pos r ≡ may_rise d up st u s) × (r ≤ 36000000)
  rise-off e f g h l = (rw (e, f, g) (simp (mul-zero, mul-one, zero-add)), small d st r e h l)

  pub rise-on : r ≡ d * up → u ≡ 1 → s ≡ 0 → d ≤ 360 → up ≤ 100000 → (pos r ≡ may_rise d up st u s) × (r ≤ 36000000)
  rise-on e f g h l = (rw (e, f, g) (simp (mul-zero, mul-one, add-zero)), small d up r e h l)

  pub rise-start : r ≡ d * st → u ≡ 1 → s ≡ 1 → d ≤ 360 → st ≤ 100000 → (pos r ≡ may_rise d up st u s) × (r ≤ 36000000)
  rise-start e f g h l = (rw (e, f, g) (simp (mul-zero, mul-one, zero-add)), small d st r e h l)

module _ (d up st u : ℕ) {r : ℕ} where
  pub fall-on : r ≡ d * up → u ≡ 1 → d ≤ 360 → up ≤ 100000 → (pos r ≡ may_fall d up st u) × (r ≤ 36000000)
  fall-on e f h l = (rw (e, f) (simp (mul-zero, mul-one, add-zero)), small d up r e h l)

  pub fall-off : r ≡ d * st → u ≡ 0 → d ≤ 360 → st ≤ 100000 → (pos r ≡ may_fall d up st u) × (r ≤ 36000000)
  fall-off e f h l = (rw (e, f) (simp (mul-zero, mul-one, zero-add)), small d st r e h l)

module _ (other a limit : ℕ) (z : ℤ) (e : pos limit ≡ z) where
  above-is : at_most (z +ℤ pos other -ℤ pos a) ≡ most 1 a (limit + other)
  above-is = most-is a (limit + other) (ap (λ (z : ℤ). z +ℤ pos other -ℤ pos a) (sym e) ∙ by≡ (nat limit ⊕ nat other ⊝ nat a) (nat (limit + other) ⊝ nat a) (omega arith))

  below-is : at_least (pos other -ℤ pos a -ℤ z) ≡ least 1 other (a + limit)
  below-is = least-is other (a + limit) (ap (λ (y : ℤ). pos other -ℤ pos a -ℤ y) (sym e) ∙ by≡ (nat other ⊝ nat a ⊝ nat limit) (nat other ⊝ nat (a + limit)) (omega arith))

module _ (span : Span) (d : Bounds) (s : Setting) (w : Moment) {rise fall : ℕ}
    (e : pos rise ≡ may_rise w.minutes d.up d.starting s.on w.started) (f : pos fall ≡ may_fall w.minutes d.down d.stopping s.on) where
  pub ramps-done : {a previous : ℕ} {first r : Span} → a ≡ forced s w → previous ≡ w.previous.0 → first ≡ narrow span (most 1 a (rise + previous))
      → r ≡ narrow first (least 1 previous (a + fall)) → r ≡ within span (ramp_bounds_of d s w)
  unfolding ramp_bounds_of
  ramps-done {a} {previous} g p h k = rw (← g, ← p) (two span (above-is previous a rise _ e) (below-is previous a fall _ f) h k)

  pub next-done : (a : ℕ) {power : ℕ} {first r : Span} → power ≡ w.power.0 → first ≡ narrow span (least 1 power (a + rise)) → r ≡ narrow first (most 1 a (fall + power))
      → r ≡ within span (next_bounds_of d s w a)
  unfolding next_bounds_of
  next-done a {power} p h k = rw (← p) (two span (below-is power a rise _ e) (above-is power a fall _ f) h k)

-- ---- rules 16, 17 and 19

module _ (span : Span) (d : Bounds) (s : Setting) (w : Moment) (c : Cell) where
  pub reserves-done : {top bottom raises lowers : ℕ} {first r : Span}
      → top ≡ c.pmax.0 * s.on → bottom ≡ c.pmin.0 * s.on → raises ≡ pick (consumes d) (downs s) (ups s) → lowers ≡ pick (consumes d) (ups s) (downs s)
      → first ≡ narrow span (most 1 raises top) → r ≡ narrow first (least 1 (bottom + lowers) 0) → r ≡ within span (reserve_bounds_of d s w c)
  unfolding reserve_bounds_of
  reserves-done {top} {bottom} {raises} {lowers} t b u l h k = rw (← t, ← b, ← u, ← l) (two span
      (most-is raises top refl)
      (least-is (bottom + lowers) 0 (by≡ (nat bottom ⊕ nat lowers) (nat (bottom + lowers) ⊝ nat 0) (omega arith))) h k)

  pub blocks-done : {a floors caps : ℕ} {first r : Span} → a ≡ forced s w → floors ≡ sum_of c.floors * s.on → caps ≡ sum_of c.caps
      → first ≡ narrow span (least 1 floors a) → r ≡ narrow first (most 1 a caps) → r ≡ within span (block_bounds_of d s w c)
  unfolding block_bounds_of
  blocks-done {a} {floors} {caps} g f m h k = rw (mul_comm s.on (sum_of c.floors), ← g, ← f, ← m) (two span (least-is floors a refl) (most-is a caps refl) h k)

module _ (x u : ℕ) where
  pub on_none : u ≡ 0 → (0 ≡ x * u) × (0 < 2 ^ 32)
  on_none e = (rw (e, mul-zero x) refl, omega arith)

  pub on-whole : {r : ℕ} → (r ≡ x) × (r < 2 ^ 32) → u ≤ 1 → (u ≡ 0 → ⊥) → (r ≡ x * u) × (r < 2 ^ 32)
  on-whole h k n = let e : u ≡ 1 = omega arith in (rw (e, mul-one x) h.0, h.1)
