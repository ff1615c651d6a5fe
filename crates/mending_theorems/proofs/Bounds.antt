-- What the moved rules ask of the online power of one interval and device: a list of bounds.
use Rattle.std.specs.Prelude.{◌≡◌, Bool, true, false, ◌&&◌, List, [], ◌∷◌, ◌++◌, ℕ, suc, ◌+◌, ◌*◌, T, leb, eqb, ℤ, pos, negsuc, ◌+ℤ◌, ◌-ℤ◌, ◌*ℤ◌, ◌≤ℤ◌}
use Rattle.std.proofs.Common.{sym, arith}
use Rattle.std.specs.Int.Signed.{le_z}
use Rattle.bits.specs.Pick.{pick}
use Rattle.numbers.specs.Z.{Ex, val, up, dn, at, nat, ◌⊕◌, ◌⊝◌, ◌⊗◌, neg, by≡, whole, n+}
use Rattle.numbers.specs.Sum.{All, sumℕ}
use Rattle.numbers.specs.Base.{implies}
use Rattle.numbers.specs.Tests.{and_in, and_l, and_r}
use Rattle.numbers.specs.Every.{all_append}
use Rattle.model.specs.Case.{System, Plan, Line}
use Rattle.model.specs.Forced.{device, cell, cap, consuming, u, least, psd, power, previous}
use Rattle.model.specs.Rules.{blocks, raising, lowering, may_rise, may_fall, highest, lowest, on_line, two_lines, equality}
use Rattle.model.specs.Breaches.{eq_z}
use Rattle.mending_theorems.specs.Held.{Held, ramp_tests, power_tests}
use Rattle.spans.specs.Spans.{Bound, Keeps}
use Rattle.mending_theorems.specs.Bounds.{Says, a, at_least, at_most, b, equality_bounds, limit_bounds, line_above, line_below, link, n, next_bounds, power_bounds, r, ramp_bounds, two_line_bounds, x}

-- ---- each test is its bound
shift : (y z y' z' : ℤ) → z +ℤ y' ≡ z' +ℤ y → y ≤ℤ z → y' ≤ℤ z'
shift y z y' z' e h = omega (whole, n+ z y', n+ z' y)

-- a test holds exactly where a power keeps a bound, and all tests of a group where it keeps each of a list of bounds
record Tells (y : Bool) (b : Bound) (v : ℕ) : Type 0 where
  kept : T y → Keeps b v
  held : Keeps b v → T y

-- a test y ≤ z, of a bound with this slope and least: where z less y is slope·v less the least
module _ (y z slope least : Ex) (v : ℕ) where
  tells : up (z ⊕ least) + dn (slope ⊗ nat v ⊕ y) ≡ up (slope ⊗ nat v ⊕ y) + dn (z ⊕ least) → Tells (le_z (val y) (val z)) (record { slope = val slope; least = val least }) v
  tells h =
      let e : val z +ℤ val least ≡ (val slope *ℤ pos v) +ℤ val y = by≡ (z ⊕ least) (slope ⊗ nat v ⊕ y) h in
      record {
        kept = λ h. record { kept = shift (val y) (val z) (val least) (val slope *ℤ pos v) e (record { le = h }) };
        held = λ k. (shift (val least) (val slope *ℤ pos v) (val y) (val z) (sym e) k.kept).le;
      }

-- a list of tests
says_none : (v : ℕ) → Says (Unit {0}) [] v
says_none v = record { kept = λ h. tt; held = λ k. tt }

says-next : {y : Bool} {A : Type 0} {b : Bound} {bs : List Bound} {v : ℕ} → Tells y b v → Says A bs v → Says (T y × A) (b ∷ bs) v
says-next f g = record { kept = λ h. (f.kept h.0, g.kept h.1); held = λ k. (f.held k.0, g.held k.1) }

says-one : {y : Bool} {b : Bound} {v : ℕ} → Tells y b v → Says (T y) (b ∷ []) v
says-one f = record { kept = λ h. (f.kept h, tt); held = λ k. f.held k.0 }

says_two : (y z : Bool) {a b : Bound} {v : ℕ} → Tells y a v → Tells z b v → Says (T (y && z)) (a ∷ b ∷ []) v
says_two y z f g = record { kept = λ h. (f.kept (and_l y z h), (g.kept (and_r y z h), tt)); held = λ k. and_in y z (f.held k.0) (g.held k.1.0) }

all-l : (P : Bound → Type 0) (l m : List Bound) → All P (l ++ m) → All P l
all-l P [] m h = tt
all-l P (b ∷ l) m h = (h.0, all-l P l m h.1)

all-r : (P : Bound → Type 0) (l m : List Bound) → All P (l ++ m) → All P m
all-r P [] m h = h
all-r P (b ∷ l) m h = all-r P l m h.1

-- one group behind another, and a group that is asked for where a test holds
pub says_both : {A B : Type 0} (l m : List Bound) {v : ℕ} → Says A l v → Says B m v → Says (A × B) (l ++ m) v
says_both l m {v} f g = record {
  kept = λ h. all_append (λ b. Keeps b v) l m (f.kept h.0) (g.kept h.1);
  held = λ k. (f.held (all-l (λ b. Keeps b v) l m k), g.held (all-r (λ b. Keeps b v) l m k));
}

pub says_if : {A : Type 0} (y : Bool) (l : List Bound) {v : ℕ} → Says A l v → Says (T y → A) (pick y l []) v
says_if true l f = record { kept = λ h. f.kept (h tt); held = λ k h. f.held k }
says_if false l f = record { kept = λ h. tt; held = λ k h. absurd h }

-- slopes 1 and −1
abbrev one : Ex
one = nat 1

abbrev minus : Ex
minus = at (negsuc 0)

module _ (v b c : ℕ) where
  abbrev w : ℕ
  w = v + b + c

  -- rules 5 and 6, against the power before or the next
  module _ (other : ℕ) (limit : ℤ) where
    above_other : Tells (le_z (pos w -ℤ pos other) limit) (at_most (limit +ℤ pos other -ℤ pos (b + c))) v
    above_other = tells (nat w ⊝ nat other) (at limit) minus (neg (at limit ⊕ nat other ⊝ nat (b + c))) v (omega arith)

    below_other : Tells (le_z (pos other -ℤ pos w) limit) (at_least (pos other -ℤ pos (b + c) -ℤ limit)) v
    below_other = tells (nat other ⊝ nat w) (at limit) one (nat other ⊝ nat (b + c) ⊝ at limit) v (omega arith)

  -- rules 16 and 17
  module _ (k m : ℕ) where
    with-most : Tells (leb (v + k) m) (at_most (pos m -ℤ pos k)) v
    with-most = tells (nat (v + k)) (nat m) minus (neg (nat m ⊝ nat k)) v (omega arith)

    less-least : Tells (le_z (pos m) (pos v -ℤ pos k)) (at_least (pos m +ℤ pos k)) v
    less-least = tells (nat m) (nat v ⊝ nat k) one (nat m ⊕ nat k) v (omega arith)

  -- rule 19
  module _ (m : ℕ) where
    floor-kept : Tells (leb m w) (at_least (pos m -ℤ pos (b + c))) v
    floor-kept = tells (nat m) (nat w) one (nat m ⊝ nat (b + c)) v (omega arith)

    cap-kept : Tells (leb w m) (at_most (pos m -ℤ pos (b + c))) v
    cap-kept = tells (nat w) (nat m) minus (neg (nat m ⊝ nat (b + c))) v (omega arith)

  -- rules 23, 24 and 25
  module _ (l : Line) (n : ℕ) where
    abbrev line_at : ℕ → Ex
    line_at k = nat 1000 ⊗ (at l.offset ⊗ nat n) ⊕ at l.slope ⊗ nat k

    module _ (z : ℤ) where
      line-above : Tells (le_z z (on_line l n w)) (line_above l n (b + c) z) v
      unfolding on_line
      line-above = tells (at z) (line_at w) (at l.slope) (at z ⊝ line_at (b + c)) v (omega arith)

      line-below : Tells (le_z (on_line l n w) z) (line_below l n (b + c) z) v
      unfolding on_line
      line-below = tells (line_at w) (at z) (neg (at l.slope)) (line_at (b + c) ⊝ at z) v (omega arith)

says-as : {A B : Type 0} (bs : List Bound) {v : ℕ} → (A → B) → (B → A) → Says B bs v → Says A bs v
says-as bs f g s = record { kept = λ h. s.kept (f h); held = λ k. g (s.held k) }

if-in : (a b : Bool) → (T a → T b) → T (implies a b)
if-in true b h = h tt
if-in false b h = tt

if-out : (a b : Bool) → T (implies a b) → T a → T b
if-out true b h i = h
if-out false b h i = absurd i

-- ---- the groups of tests
module _ (q : System) (p : Plan) (t i v : ℕ) where
  abbrev c : ℕ
  c = psd q p t i

  pub ramps-say : Says (Held (ramp_tests q p t i (v + (b q p t i v) + c) (previous q p t i))) (ramp_bounds q p t i) v
  unfolding ramp_tests ramp_bounds
  ramps-say = says-next (above_other v (b q p t i v) c (previous q p t i) (may_rise q p t i)) (says-next (below_other v (b q p t i v) c (previous q p t i) (may_fall q p t i)) (says_none v))

  pub next-say : Says (Held (ramp_tests q p (suc t) i (power q p (suc t) i) (v + (b q p t i v) + c))) (next_bounds q p t i) v
  unfolding ramp_tests next_bounds
  next-say = says-next (below_other v (b q p t i v) c (power q p (suc t) i) (may_rise q p (suc t) i)) (says-next (above_other v (b q p t i v) c (power q p (suc t) i) (may_fall q p (suc t) i)) (says_none v))

  -- rules 16, 17, 19
  abbrev Limits : Type 0
  Limits =
      T (leb (v + raising (consuming q i) (r q p t i)) ((cell q t i).pmax * u q p t i))
      × (T (le_z (pos ((cell q t i).pmin * u q p t i)) (pos v -ℤ pos (lowering (consuming q i) (r q p t i))))
      × T (leb (sumℕ (least q p t i) blocks) (v + (b q p t i v) + c) && leb (v + (b q p t i v) + c) (sumℕ (cap q t i) blocks)))

  limits-say : Says Limits (limit_bounds q p t i) v
  limits-say = says-next (with-most v (b q p t i v) c (raising (consuming q i) (r q p t i)) ((cell q t i).pmax * u q p t i))
      (says-next (less-least v (b q p t i v) c (lowering (consuming q i) (r q p t i)) ((cell q t i).pmin * u q p t i))
      (says_two _ _ (floor-kept v (b q p t i v) c (sumℕ (least q p t i) blocks)) (cap-kept v (b q p t i v) c (sumℕ (cap q t i) blocks))))

  -- rules 23 and 24, and 25
  abbrev up₀ : ℤ
  up₀ = pos 1000 *ℤ highest (consuming q i) (x q p t i)

  abbrev down₀ : ℤ
  down₀ = pos 1000 *ℤ lowest (consuming q i) (x q p t i)

  abbrev on₀ : ℤ
  on₀ = pos 1000 *ℤ (x q p t i).q

  abbrev line : Line → ℤ
  line l = on_line l (n q p t i) (v + (b q p t i v) + c)

  abbrev l₁ : Line
  l₁ = (device q i).link.upper

  abbrev l₂ : Line
  l₂ = (device q i).link.lower

  lines-say : Says (T (le_z up₀ (line l₁)) × T (le_z (line l₂) down₀)) (two_line_bounds q p t i) v
  lines-say = says-next (line-above v (b q p t i v) c l₁ (n q p t i) up₀) (says-one (line-below v (b q p t i v) c l₂ (n q p t i) down₀))

  equal-say : Says (T (eq_z on₀ (line l₁))) (equality_bounds q p t i) v
  equal-say = says_two _ _ (line-above v (b q p t i v) c l₁ (n q p t i) on₀) (line-below v (b q p t i v) c l₁ (n q p t i) on₀)

  abbrev k₁ : Bool
  k₁ = eqb (device q i).link.kind two_lines

  abbrev k₂ : Bool
  k₂ = eqb (device q i).link.kind equality

  pub powers-say : Says (Held (power_tests q p t i v (v + (b q p t i v) + c))) (power_bounds q p t i) v
  unfolding power_tests power_bounds
  powers-say = says-as (power_bounds q p t i)
      (λ h. ((h.0, (h.1.0, h.1.1.0)), ((λ k. (if-out k₁ _ h.1.1.1.0 k, if-out k₁ _ h.1.1.1.1.0 k)), λ k. if-out k₂ _ h.1.1.1.1.1.0 k)))
      (λ s. (s.0.0, (s.0.1.0, (s.0.1.1, (if-in k₁ _ (λ k. (s.1.0 k).0), (if-in k₁ _ (λ k. (s.1.0 k).1), (if-in k₂ _ s.1.1, tt)))))))
      (says_both (limit_bounds q p t i) _ limits-say (says_both (pick k₁ (two_line_bounds q p t i) []) _ (says_if k₁ (two_line_bounds q p t i) lines-say) (says_if k₂ (equality_bounds q p t i) equal-say)))
