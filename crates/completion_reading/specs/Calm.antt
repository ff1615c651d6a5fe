-- Layouts whose fields take every value of their width: reading stops only where the message is cut, and nothing can contradict. Laws of reading, each proved once.
use Rattle.std.specs.Prelude.{◌≡◌, Bool, true, false, leb, nat_abs}
use Rattle.std.proofs.Math.Path.{refl}
use Rattle.std.proofs.Common.{sym, ◌∙◌, ap, arith, le-leb}
use mathlib.Core.List.{List, [], ◌∷◌}
use Prim.Native.Nat.{ℕ, zero, suc, ◌+◌, ◌-◌, ◌*◌, ◌^◌, ◌≤◌, ◌<◌}
use Rattle.std.proofs.Math.Decide.{dec_le}
use Rattle.std.proofs.Math.Nat.{two-pow-succ}
use Rattle.std.proofs.lemmas.Bool.{lt-leb}
use Rattle.bits.specs.Bits.{field_at, reach, read_field}
use Rattle.bits.specs.Pick.{pick}
use Rattle.bits.specs.Twos.{from_twos}
use Rattle.bits.specs.declared.Field.TheVariants.{Value, Cut}
use Rattle.bits.proofs.Laws.{field_lt}
use Rattle.layouts.specs.declared.Fault.{Fault}
use Rattle.layouts.specs.declared.Fault.TheVariants as F
use Rattle.layouts.specs.declared.Clash.{Clash}
use Rattle.layouts.specs.declared.Clash.TheVariants.{Clear, At}
use Rattle.layouts.specs.declared.Place.{Place}
use Rattle.layouts.specs.Layout.{Layout, Field, Whole, fails, raw, advanced, begin, nat, int, any, ◌then◌, ◌▸◌, repeated, list, held, settle, tail_fault, read_whole}
use Rattle.layouts.specs.Since.{nothing, present}

-- reading stops with a fault of which G holds, or goes on with nothing more that clashes
pub data Calmly {A : Type 0} (G : Fault → Type 0) (P : Place → Type 0) (run : (X : Type 0) → (Fault → X) → (A → Place → X) → X) : Type 1 where
  stops : (f : Fault) → G f → ((X : Type 0) (bad : Fault → X) (next : A → Place → X) → run X bad next ≡ bad f) → Calmly G P run
  goes : (a : A) (q : Place) → P q → ((X : Type 0) (bad : Fault → X) (next : A → Place → X) → run X bad next ≡ next a q) → Calmly G P run

-- ---- anywhere: stops only at a cut

pub data IsCut : Fault → Type 0 where
  is_cut : (b : ℕ) → IsCut (F.Cut b)

pub record Calm {A : Type 0} (l : Layout A) : Type 1 where
  pub calm : (s : List ℕ) (p : Place) → Calmly IsCut (λ q. q.clash ≡ p.clash) (λ X bad next. l.read {X = X} s p bad next)

pub any-calm : (w : ℕ) → Calm (any w)
unfolding nat read_field
any-calm w = record { calm = λ s p. go s p (leb (p.at + w) (8 * reach s)) }
  where
    go : (s : List ℕ) (p : Place) (b : Bool) → Calmly IsCut (λ q. q.clash ≡ p.clash)
        (λ X bad next. raw {X = X} (pick b (Value (field_at s p.at w) (record { at = p.at + w })) (Cut p.at)) p bad
        (λ v after. pick (leb 0 v) (pick (leb v (2 ^ w - 1)) (next v after) (bad (F.OutOfRange p.at))) (bad (F.OutOfRange p.at))))
    go s p true = goes (field_at s p.at w) (advanced p (p.at + w)) refl
        (λ X bad next. let h = field_lt s p.at w in rw (le-leb 0 (field_at s p.at w) (omega arith), le-leb (field_at s p.at w) (2 ^ w - 1) (omega arith)) refl)
    go s p false = stops (F.Cut p.at) (is_cut p.at) (λ X bad next. refl)

-- two's complement of w + 1 bits
pub twos_small : (w v : ℕ) → v < 2 ^ suc w → nat_abs (from_twos (suc w) v) ≤ 2 ^ w
unfolding from_twos
twos_small w v h = elim (dec_le (suc (2 * v)) (2 ^ suc w)) [
  | yes l ↦ rw (le-leb (suc (2 * v)) (2 ^ suc w) l) (omega (arith, two-pow-succ w))
  | no l ↦ rw (lt-leb (suc (2 * v)) (2 ^ suc w) (omega arith)) (omega (arith, two-pow-succ w))
]

pub int-calm : (w : ℕ) → Calm (int (suc w) (2 ^ w))
unfolding int read_field
int-calm w = record { calm = λ s p. go s p (leb (p.at + suc w) (8 * reach s)) }
  where
    go : (s : List ℕ) (p : Place) (b : Bool) → Calmly IsCut (λ q. q.clash ≡ p.clash)
        (λ X bad next. raw {X = X} (pick b (Value (field_at s p.at (suc w)) (record { at = p.at + suc w })) (Cut p.at)) p bad
        (λ v after. pick (leb (nat_abs (from_twos (suc w) v)) (2 ^ w)) (next (from_twos (suc w) v) after) (bad (F.OutOfRange p.at))))
    go s p true = goes (from_twos (suc w) (field_at s p.at (suc w))) (advanced p (p.at + suc w)) refl
        (λ X bad next. rw (le-leb (nat_abs (from_twos (suc w) (field_at s p.at (suc w)))) (2 ^ w) (twos_small w _ (field_lt s p.at (suc w)))) refl)
    go s p false = stops (F.Cut p.at) (is_cut p.at) (λ X bad next. refl)

pub held-calm : {A B : Type 0} (to : A → B) (from : B → A) {l : Layout A} → Calm l → Calm (held to from l)
unfolding held
held-calm to from {l} u = record { calm = λ s p. go s p (u.calm s p) }
  where
    go : (s : List ℕ) (p : Place) → Calmly IsCut (λ q. q.clash ≡ p.clash) (λ X bad next. l.read {X = X} s p bad next)
        → Calmly IsCut (λ q. q.clash ≡ p.clash) (λ X bad next. l.read {X = X} s p bad (λ a p. next (to a) p))
    go s p (stops f k e) = stops f k (λ X bad next. e X bad _)
    go s p (goes a q c e) = goes (to a) q c (λ X bad next. e X bad _)

pub pair-calm : {A B : Type 0} {l : Layout A} {m : Layout B} → Calm l → Calm m → Calm (l ▸ m)
unfolding ◌then◌
pair-calm {A} {B} {l} {m} u v = record { calm = λ s p. first s p (u.calm s p) }
  where
    second : (s : List ℕ) (p : Place) (a : A) (q : Place) → q.clash ≡ p.clash → ((X : Type 0) (bad : Fault → X) (next : A → Place → X) → l.read s p bad next ≡ next a q)
        → Calmly IsCut (λ r. r.clash ≡ q.clash) (λ X bad next. m.read {X = X} s q bad next)
        → Calmly {A = A × B} IsCut (λ r. r.clash ≡ p.clash) (λ X bad next. l.read {X = X} s p bad (λ a p. m.read s p bad (λ b p. next (a, b) p)))
    second s p a q c e (stops f k g) = stops f k (λ X bad next. e X bad _ ∙ g X bad _)
    second s p a q c e (goes b r d g) = goes (a, b) r (d ∙ c) (λ X bad next. e X bad _ ∙ g X bad _)

    first : (s : List ℕ) (p : Place) → Calmly IsCut (λ q. q.clash ≡ p.clash) (λ X bad next. l.read {X = X} s p bad next)
        → Calmly {A = A × B} IsCut (λ r. r.clash ≡ p.clash) (λ X bad next. l.read {X = X} s p bad (λ a p. m.read s p bad (λ b p. next (a, b) p)))
    first s p (stops f k e) = stops f k (λ X bad next. e X bad _)
    first s p (goes a q c e) = second s p a q c e (v.calm s q)

module _ {A : Type 0} {l : Layout A} (u : Calm l) (s : List ℕ) where
  others : (n : ℕ) (p : Place) (a : A) (q : Place) → q.clash ≡ p.clash → ((X : Type 0) (bad : Fault → X) (next : A → Place → X) → l.read s p bad next ≡ next a q)
      → Calmly IsCut (λ r. r.clash ≡ q.clash) (λ X bad next. repeated {X = X} l s n q bad next)
      → Calmly IsCut (λ r. r.clash ≡ p.clash) (λ X bad next. l.read {X = X} s p bad (λ a p. repeated l s n p bad (λ r p. next (a ∷ r) p)))
  others n p a q c e (stops f k g) = stops f k (λ X bad next. e X bad _ ∙ g X bad _)
  others n p a q c e (goes xs r d g) = goes (a ∷ xs) r (d ∙ c) (λ X bad next. e X bad _ ∙ g X bad _)

  one : (n : ℕ) (p : Place) → Calmly IsCut (λ q. q.clash ≡ p.clash) (λ X bad next. l.read {X = X} s p bad next)
      → ((q : Place) → Calmly IsCut (λ r. r.clash ≡ q.clash) (λ X bad next. repeated {X = X} l s n q bad next))
      → Calmly IsCut (λ r. r.clash ≡ p.clash) (λ X bad next. l.read {X = X} s p bad (λ a p. repeated l s n p bad (λ r p. next (a ∷ r) p)))
  one n p (stops f k e) ih = stops f k (λ X bad next. e X bad _)
  one n p (goes a q c e) ih = others n p a q c e (ih q)

  repeated-calm : (n : ℕ) (p : Place) → Calmly IsCut (λ q. q.clash ≡ p.clash) (λ X bad next. repeated {X = X} l s n p bad next)
  unfolding repeated
  repeated-calm zero p = goes [] p refl (λ X bad next. refl)
  repeated-calm (suc n) p = one n p (u.calm s p) (repeated-calm n)

pub list-calm : {A : Type 0} (n : ℕ) {l : Layout A} → Calm l → Calm (list n l)
unfolding list
list-calm n u = record { calm = λ s p. repeated-calm u s n p }

pub present-calm : {A : Type 0} (b : Bool) (neutral : A) {l : Layout A} → Calm l → Calm (present b neutral l)
unfolding present nothing
present-calm true neutral u = u
present-calm false neutral u = record { calm = λ s p. goes neutral p refl (λ X bad next. refl) }

-- ---- at a known place: fields of one value

pub record CalmAt {A : Type 0} (l : Layout A) (at w : ℕ) (G : Fault → Type 0) : Type 1 where
  pub calm : (s : List ℕ) (p : Place) → p.at ≡ at → Calmly G (λ q. (q.at ≡ at + w) × (q.clash ≡ p.clash)) (λ X bad next. l.read {X = X} s p bad next)

pub field-calm : (f : Field) (at : ℕ) (G : Fault → Type 0) → G (F.Cut at) → G (f.wrong at) → CalmAt (nat f) at f.width G
unfolding nat read_field
field-calm f at G h k = record { calm = λ s p e. go s p e (leb (p.at + f.width) (8 * reach s)) }
  where
    tests : (p : Place) (v : ℕ) (a b : Bool) → p.at ≡ at → Calmly G (λ q. (q.at ≡ at + f.width) × (q.clash ≡ p.clash))
        (λ X bad next. pick {A = X} a (pick b (next v (advanced p (p.at + f.width))) (bad (f.wrong p.at))) (bad (f.wrong p.at)))
    tests p v true true e = goes v _ (ap (λ (n : ℕ). n + f.width) e, refl) (λ X bad next. refl)
    tests p v true false e = stops (f.wrong p.at) (rw e k) (λ X bad next. refl)
    tests p v false b e = stops (f.wrong p.at) (rw e k) (λ X bad next. refl)

    go : (s : List ℕ) (p : Place) → p.at ≡ at → (b : Bool) → Calmly G (λ q. (q.at ≡ at + f.width) × (q.clash ≡ p.clash))
        (λ X bad next. raw {X = X} (pick b (Value (field_at s p.at f.width) (record { at = p.at + f.width })) (Cut p.at)) p bad
        (λ v after. pick (leb f.low v) (pick (leb v f.high) (next v after) (bad (f.wrong p.at))) (bad (f.wrong p.at))))
    go s p e true = tests p (field_at s p.at f.width) (leb f.low (field_at s p.at f.width)) (leb (field_at s p.at f.width) f.high) e
    go s p e false = stops (F.Cut p.at) (rw e h) (λ X bad next. refl)

pub held_at : {A B : Type 0} (to : A → B) (from : B → A) {l : Layout A} {at w : ℕ} {G : Fault → Type 0} → CalmAt l at w G → CalmAt (held to from l) at w G
unfolding held
held_at to from {l} {at} {w} {G} u = record { calm = λ s p e. go s p (u.calm s p e) }
  where
    go : (s : List ℕ) (p : Place) → Calmly G (λ q. (q.at ≡ at + w) × (q.clash ≡ p.clash)) (λ X bad next. l.read {X = X} s p bad next)
        → Calmly G (λ q. (q.at ≡ at + w) × (q.clash ≡ p.clash)) (λ X bad next. l.read {X = X} s p bad (λ a p. next (to a) p))
    go s p (stops f k e) = stops f k (λ X bad next. e X bad _)
    go s p (goes a q c e) = goes (to a) q c (λ X bad next. e X bad _)

pub pair-at : {A B : Type 0} {l : Layout A} {m : Layout B} {at w v : ℕ} {G : Fault → Type 0} → CalmAt l at w G → CalmAt m (at + w) v G → CalmAt (l ▸ m) at (w + v) G
unfolding ◌then◌
pair-at {A} {B} {l} {m} {at} {w} {v} {G} x y = record { calm = λ s p e. first s p (x.calm s p e) }
  where
    second : (s : List ℕ) (p : Place) (a : A) (q : Place) → q.clash ≡ p.clash → ((X : Type 0) (bad : Fault → X) (next : A → Place → X) → l.read s p bad next ≡ next a q)
        → Calmly G (λ r. (r.at ≡ at + w + v) × (r.clash ≡ q.clash)) (λ X bad next. m.read {X = X} s q bad next)
        → Calmly {A = A × B} G (λ r. (r.at ≡ at + (w + v)) × (r.clash ≡ p.clash)) (λ X bad next. l.read {X = X} s p bad (λ a p. m.read s p bad (λ b p. next (a, b) p)))
    second s p a q c e (stops f k g) = stops f k (λ X bad next. e X bad _ ∙ g X bad _)
    second s p a q c e (goes b r (i, d) g) = goes (a, b) r (omega arith, d ∙ c) (λ X bad next. e X bad _ ∙ g X bad _)

    first : (s : List ℕ) (p : Place) → Calmly G (λ q. (q.at ≡ at + w) × (q.clash ≡ p.clash)) (λ X bad next. l.read {X = X} s p bad next)
        → Calmly {A = A × B} G (λ r. (r.at ≡ at + (w + v)) × (r.clash ≡ p.clash)) (λ X bad next. l.read {X = X} s p bad (λ a p. m.read s p bad (λ b p. next (a, b) p)))
    first s p (stops f k e) = stops f k (λ X bad next. e X bad _)
    first s p (goes a q (i, c) e) = second s p a q c e (y.calm s q i)

-- behind them what takes every value
pub then-calm : {A B : Type 0} {l : Layout A} {m : Layout B} {at w : ℕ} {G : Fault → Type 0} → CalmAt l at w G → Calm m → ((b : ℕ) → G (F.Cut b)) → (s : List ℕ) (p : Place) → p.at ≡ at
    → Calmly G (λ q. q.clash ≡ p.clash) (λ X bad next. (l ▸ m).read {X = X} s p bad next)
unfolding ◌then◌
then-calm {A} {B} {l} {m} {at} {w} {G} x y h s p i = first (x.calm s p i)
  where
    cuts : (f : Fault) → IsCut f → G f
    cuts f (is_cut b) = h b

    second : (a : A) (q : Place) → q.clash ≡ p.clash → ((X : Type 0) (bad : Fault → X) (next : A → Place → X) → l.read s p bad next ≡ next a q)
        → Calmly IsCut (λ r. r.clash ≡ q.clash) (λ X bad next. m.read {X = X} s q bad next)
        → Calmly {A = A × B} G (λ r. r.clash ≡ p.clash) (λ X bad next. l.read {X = X} s p bad (λ a p. m.read s p bad (λ b p. next (a, b) p)))
    second a q c e (stops f k g) = stops f (cuts f k) (λ X bad next. e X bad _ ∙ g X bad _)
    second a q c e (goes b r d g) = goes (a, b) r (d ∙ c) (λ X bad next. e X bad _ ∙ g X bad _)

    first : Calmly G (λ q. (q.at ≡ at + w) × (q.clash ≡ p.clash)) (λ X bad next. l.read {X = X} s p bad next)
        → Calmly {A = A × B} G (λ r. r.clash ≡ p.clash) (λ X bad next. l.read {X = X} s p bad (λ a p. m.read s p bad (λ b p. next (a, b) p)))
    first (stops f k e) = stops f k (λ X bad next. e X bad _)
    first (goes a q (j, c) e) = second a q c e (y.calm s q)

-- held as another type
pub held-calmly : {A B : Type 0} (to : A → B) (from : B → A) (l : Layout A) {G : Fault → Type 0} {P : Place → Type 0} (s : List ℕ) (p : Place)
    → Calmly G P (λ X bad next. l.read {X = X} s p bad next) → Calmly G P (λ X bad next. (held to from l).read {X = X} s p bad next)
unfolding held
held-calmly to from l s p (stops f k e) = stops f k (λ X bad next. e X bad _)
held-calmly to from l s p (goes a q c e) = goes (to a) q c (λ X bad next. e X bad _)

-- ---- a whole message: what it is refused for

pub whole-calm : {A : Type 0} (l : Layout A) (G : Fault → Type 0) (s : List ℕ) → Calmly G (λ q. q.clash ≡ Clear) (λ X bad next. l.read {X = X} s begin bad next) → ((b : ℕ) → G (F.Tail b))
    → (f : Fault) → read_whole l s ≡ fails f → G f
unfolding read_whole settle
whole-calm {A} l G s u h f k = go u
  where
    settled : (a : A) (t c : Clash) → c ≡ Clear → settle a t c ≡ fails f → G f
    settled a (At b) c d e = let g : F.Tail b ≡ f = cc in rw (sym g) (h b)
    settled a Clear (At b) d e = absurd (let z : ◌≡◌ {A = ℕ} 0 1 = cc in omega arith)
    settled a Clear Clear d e = absurd (let z : ◌≡◌ {A = ℕ} 0 1 = cc in omega arith)

    go : Calmly G (λ q. q.clash ≡ Clear) (λ X bad next. l.read {X = X} s begin bad next) → G f
    go (stops g j e) = let t = sym (e (Whole A) fails (λ a p. settle a (tail_fault s p.at) p.clash)) ∙ k in let i : g ≡ f = cc in rw (sym i) j
    go (goes a q c e) = settled a (tail_fault s q.at) q.clash c (sym (e (Whole A) fails (λ a p. settle a (tail_fault s p.at) p.clash)) ∙ k)
