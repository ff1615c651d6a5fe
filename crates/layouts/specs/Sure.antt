-- What passes reading contradicts nothing: where no clash stands in the end, none stood before, and every test of what was read held. The laws of reading, each proved once.
use Rattle.std.specs.Prelude.{◌≡◌, refl, Bool, true, false, T, leb, length, ℤ, nat_abs}
use Rattle.std.proofs.Common.{sym, ◌∙◌, ap, arith, leb→le}
use mathlib.Core.List.{List, [], ◌∷◌}
use Prim.Native.Nat.{ℕ, zero, suc, ◌≤◌}
use Rattle.numbers.specs.Sum.{All}
use Rattle.layouts.specs.declared.Fault.{Fault}
use Rattle.layouts.specs.declared.Fault.TheVariants as F
use Rattle.layouts.specs.declared.Clash.{Clash}
use Rattle.layouts.specs.declared.Clash.TheVariants.{Clear, At}
use Rattle.layouts.specs.declared.Place.{Place}
use Rattle.bits.specs.Bits.{read_field}
use Rattle.bits.specs.declared.Field.{Field as Raw}
use Rattle.bits.specs.declared.Field.TheVariants.{Value, Cut}
use Rattle.bits.specs.Pick.{pick}
use Rattle.bits.specs.Twos.{from_twos}
use Rattle.layouts.specs.Layout.{Layout, Field, Whole, passes, fails, or_else, raw, nat, int, ◌then◌, repeated, list, such, held, noted, advanced, begin, settle, tail_fault, read_whole}
use Rattle.layouts.specs.Since.{nothing, present}
use Rattle.layouts.specs.Checked as C
use Rattle.layouts.specs.Checked.{Checked}

-- reading stops with a fault, or goes on with a value of which P holds unless a clash stands behind it
pub data Ends {A : Type 0} (P : A → Type 0) (p : Place) (run : (X : Type 0) → (Fault → X) → (A → Place → X) → X) : Type 1 where
  stops : (f : Fault) → ((X : Type 0) (bad : Fault → X) (next : A → Place → X) → run X bad next ≡ bad f) → Ends P p run
  goes : (a : A) (q : Place) → (q.clash ≡ Clear → P a × (p.clash ≡ Clear)) → ((X : Type 0) (bad : Fault → X) (next : A → Place → X) → run X bad next ≡ next a q) → Ends P p run

pub record Sure {A : Type 0} (l : Layout A) (P : A → Type 0) : Type 1 where
  pub ends : (s : List ℕ) (p : Place) → Ends P p (λ X bad next. l.read {X = X} s p bad next)

-- nothing is asked of a value
abbrev pub Any : {A : Type 0} → A → Type 0
Any a = Unit {0}

pub nat-sure : (f : Field) → Sure (nat f) (λ v. (f.low ≤ v) × (v ≤ f.high))
unfolding nat
nat-sure f = record { ends = λ s p. go p (read_field s p.at f.width) }
  where
    tests : (p : Place) (n v : ℕ) (a b : Bool) → (T a → f.low ≤ v) → (T b → v ≤ f.high)
        → Ends (λ v. (f.low ≤ v) × (v ≤ f.high)) p (λ X bad next. pick a (pick b (next v (advanced p n)) (bad (f.wrong p.at))) (bad (f.wrong p.at)))
    tests p n v true true g h = goes v (advanced p n) (λ e. ((g tt, h tt), e)) (λ X bad next. refl)
    tests p n v true false g h = stops (f.wrong p.at) (λ X bad next. refl)
    tests p n v false b g h = stops (f.wrong p.at) (λ X bad next. refl)

    go : (p : Place) (r : Raw) → Ends (λ v. (f.low ≤ v) × (v ≤ f.high)) p
        (λ X bad next. raw r p bad (λ v after. pick (leb f.low v) (pick (leb v f.high) (next v after) (bad (f.wrong p.at))) (bad (f.wrong p.at))))
    go p (Value v c) = tests p c.at v (leb f.low v) (leb v f.high) (λ t. leb→le _ _ t) (λ t. leb→le _ _ t)
    go p (Cut b) = stops (F.Cut p.at) (λ X bad next. refl)

pub int-sure : (w most : ℕ) → Sure (int w most) (λ z. nat_abs z ≤ most)
unfolding int
int-sure w most = record { ends = λ s p. go p (read_field s p.at w) }
  where
    test : (p : Place) (n : ℕ) (z : ℤ) (a : Bool) → (T a → nat_abs z ≤ most) → Ends (λ z. nat_abs z ≤ most) p (λ X bad next. pick {A = X} a (next z (advanced p n)) (bad (F.OutOfRange p.at)))
    test p n z true g = goes z (advanced p n) (λ e. (g tt, e)) (λ X bad next. refl)
    test p n z false g = stops (F.OutOfRange p.at) (λ X bad next. refl)

    go : (p : Place) (r : Raw) → Ends (λ z. nat_abs z ≤ most) p
        (λ X bad next. raw {X = X} r p bad (λ v after. pick (leb (nat_abs (from_twos w v)) most) (next (from_twos w v) after) (bad (F.OutOfRange p.at))))
    go p (Value v c) = test p c.at (from_twos w v) (leb (nat_abs (from_twos w v)) most) (λ t. leb→le _ _ t)
    go p (Cut b) = stops (F.Cut p.at) (λ X bad next. refl)

pub held-sure : {A B : Type 0} (to : A → B) (from : B → A) (l : Layout A) (P : A → Type 0) (Q : B → Type 0) → Sure l P → ((a : A) → P a → Q (to a)) → Sure (held to from l) Q
unfolding held
held-sure to from l P Q u h = record { ends = λ s p. go s p (u.ends s p) }
  where
    go : (s : List ℕ) (p : Place) → Ends P p (λ X bad next. l.read {X = X} s p bad next) → Ends Q p (λ X bad next. l.read {X = X} s p bad (λ a p. next (to a) p))
    go s p (stops f e) = stops f (λ X bad next. e X bad _)
    go s p (goes a q k e) = goes (to a) q (λ c. (h a (k c).0, (k c).1)) (λ X bad next. e X bad _)

pub then-sure : {A B : Type 0} (l : Layout A) (m : A → Layout B) (P : A → Type 0) (Q : A → B → Type 0)
    → Sure l P → ((a : A) → Sure (m a) (Q a)) → Sure (l then m) (λ x. P x.0 × Q x.0 x.1)
unfolding ◌then◌
then-sure {A} {B} l m P Q u v = record { ends = λ s p. first s p (u.ends s p) }
  where
    second : (s : List ℕ) (p : Place) (a : A) (q : Place) → (q.clash ≡ Clear → P a × (p.clash ≡ Clear))
        → ((X : Type 0) (bad : Fault → X) (next : A → Place → X) → l.read s p bad next ≡ next a q)
        → Ends (Q a) q (λ X bad next. (m a).read {X = X} s q bad next)
        → Ends (λ (x : A × B). P x.0 × Q x.0 x.1) p (λ X bad next. l.read {X = X} s p bad (λ a p. (m a).read s p bad (λ b p. next (a, b) p)))
    second s p a q k e (stops f g) = stops f (λ X bad next. e X bad _ ∙ g X bad _)
    second s p a q k e (goes b r j g) = goes (a, b) r (λ c. (((k (j c).1).0, (j c).0), (k (j c).1).1)) (λ X bad next. e X bad _ ∙ g X bad _)

    first : (s : List ℕ) (p : Place) → Ends P p (λ X bad next. l.read {X = X} s p bad next)
        → Ends (λ (x : A × B). P x.0 × Q x.0 x.1) p (λ X bad next. l.read {X = X} s p bad (λ a p. (m a).read s p bad (λ b p. next (a, b) p)))
    first s p (stops f e) = stops f (λ X bad next. e X bad _)
    first s p (goes a q k e) = second s p a q k e ((v a).ends s q)

-- a test that was made held
pub such-sure : {A : Type 0} (ok : A → Bool) (l : Layout A) (P : A → Type 0) → Sure l P → Sure (such ok l) (λ a. P a × T (ok a))
unfolding such
such-sure {A} ok l P u = record { ends = λ s p. go s p (u.ends s p) }
  where
    clear : (b : Bool) (n : ℕ) (q : Place) → (noted b n q).clash ≡ Clear → T b × (q.clash ≡ Clear)
    clear true n q e = (tt, e)
    clear false n q e = absurd (dirty q.clash e)
      where
        dirty : (c : Clash) → or_else c (At n) ≡ Clear → ⊥
        dirty Clear e = let z : ◌≡◌ {A = ℕ} 0 1 = cc in omega arith
        dirty (At b) e = let z : ◌≡◌ {A = ℕ} 0 1 = cc in omega arith

    go : (s : List ℕ) (p : Place) → Ends P p (λ X bad next. l.read {X = X} s p bad next)
        → Ends (λ a. P a × T (ok a)) p (λ X bad next. l.read {X = X} s p bad (λ a after. next a (noted (ok a) p.at after)))
    go s p (stops f e) = stops f (λ X bad next. e X bad _)
    go s p (goes a q k e) = goes a (noted (ok a) p.at q) (λ c. let d = clear (ok a) p.at q c in (((k d.1).0, d.0), (k d.1).1)) (λ X bad next. e X bad _)

module _ {A : Type 0} (l : Layout A) (P : A → Type 0) (u : Sure l P) (s : List ℕ) where
  repeated-ends : (n : ℕ) (p : Place) → Ends (λ xs. (length xs ≡ n) × All P xs) p (λ X bad next. repeated {X = X} l s n p bad next)
  unfolding repeated
  repeated-ends zero p = goes [] p (λ c. ((refl, tt), c)) (λ X bad next. refl)
  repeated-ends (suc n) p = first (u.ends s p) (repeated-ends n)
    where
      second : (a : A) (q : Place) → (q.clash ≡ Clear → P a × (p.clash ≡ Clear)) → ((X : Type 0) (bad : Fault → X) (next : A → Place → X) → l.read s p bad next ≡ next a q)
          → Ends (λ xs. (length xs ≡ n) × All P xs) q (λ X bad next. repeated {X = X} l s n q bad next)
          → Ends (λ xs. (length xs ≡ suc n) × All P xs) p (λ X bad next. l.read {X = X} s p bad (λ a p. repeated l s n p bad (λ r p. next (a ∷ r) p)))
      second a q k e (stops f g) = stops f (λ X bad next. e X bad _ ∙ g X bad _)
      second a q k e (goes r z j g) = goes (a ∷ r) z (λ c. ((ap suc (j c).0.0, ((k (j c).1).0, (j c).0.1)), (k (j c).1).1)) (λ X bad next. e X bad _ ∙ g X bad _)

      first : Ends P p (λ X bad next. l.read {X = X} s p bad next) → ((p : Place) → Ends (λ xs. (length xs ≡ n) × All P xs) p (λ X bad next. repeated {X = X} l s n p bad next))
          → Ends (λ xs. (length xs ≡ suc n) × All P xs) p (λ X bad next. l.read {X = X} s p bad (λ a p. repeated l s n p bad (λ r p. next (a ∷ r) p)))
      first (stops f e) ih = stops f (λ X bad next. e X bad _)
      first (goes a q k e) ih = second a q k e (ih q)

pub list-sure : {A : Type 0} (n : ℕ) (l : Layout A) (P : A → Type 0) → Sure l P → Sure (list n l) (λ xs. (length xs ≡ n) × All P xs)
unfolding list
list-sure n l P u = record { ends = λ s p. repeated-ends l P u s n p }

-- what an edition has or lacks
pub present-sure : {A : Type 0} (b : Bool) (neutral : A) (l : Layout A) (P : A → Type 0) → Sure l P → P neutral → Sure (present b neutral l) P
unfolding present nothing
present-sure true neutral l P u n = u
present-sure false neutral l P u n = record { ends = λ s p. goes neutral p (λ c. (n, c)) (λ X bad next. refl) }

pub weaken-sure : {A : Type 0} (l : Layout A) (P Q : A → Type 0) → Sure l P → ((a : A) → P a → Q a) → Sure l Q
weaken-sure {A} l P Q u f = record { ends = λ s p. go s p (u.ends s p) }
  where
    go : (s : List ℕ) (p : Place) → Ends P p (λ X bad next. l.read {X = X} s p bad next) → Ends Q p (λ X bad next. l.read {X = X} s p bad next)
    go s p (stops g e) = stops g e
    go s p (goes a q k e) = goes a q (λ c. (f a (k c).0, (k c).1)) e

-- whatever clashes, reading stops or goes on
pub sure-checked : {A : Type 0} (l : Layout A) (P : A → Type 0) → Sure l P → Checked l Any
sure-checked l P u = record { outcome = λ s p. go s p (u.ends s p) }
  where
    go : (s : List ℕ) (p : Place) → Ends P p (λ X bad next. l.read {X = X} s p bad next) → C.Outcome Any (λ X bad next. l.read {X = X} s p bad next)
    go s p (stops f e) = C.stops f e
    go s p (goes a q k e) = C.goes a q tt e

-- a message that passes reading contradicts nothing
pub whole-sure : {A : Type 0} (l : Layout A) (P : A → Type 0) → Sure l P → (s : List ℕ) (a : A) → read_whole l s ≡ passes a → P a
unfolding read_whole settle
whole-sure {A} l P u s a h = go (u.ends s begin)
  where
    settled : (x : A) (f c : Clash) → (c ≡ Clear → P x) → settle x f c ≡ passes a → P a
    settled x (At b) c k e = absurd (let z : ◌≡◌ {A = ℕ} 0 1 = cc in omega arith)
    settled x Clear (At b) k e = absurd (let z : ◌≡◌ {A = ℕ} 0 1 = cc in omega arith)
    settled x Clear Clear k e = let t : x ≡ a = cc in rw (sym t) (k refl)

    go : Ends P begin (λ X bad next. l.read {X = X} s begin bad next) → P a
    go (stops f e) = absurd (let t = sym (e (Whole A) fails (λ a p. settle a (tail_fault s p.at) p.clash)) ∙ h in let z : ◌≡◌ {A = ℕ} 0 1 = cc in omega arith)
    go (goes x q k e) = settled x (tail_fault s q.at) q.clash (λ c. (k c).0) (sym (e (Whole A) fails (λ a p. settle a (tail_fault s p.at) p.clash)) ∙ h)
