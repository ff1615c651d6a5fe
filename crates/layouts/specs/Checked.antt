-- What passes reading is within its ranges: the laws of reading, each proved once.
use Rattle.std.specs.Prelude.{◌≡◌, refl, Bool, true, false, T, leb, length, ℤ, nat_abs}
use Rattle.std.proofs.Common.{sym, ◌∙◌, ap, arith, leb→le}
use mathlib.Core.List.{List, [], ◌∷◌}
use Prim.Native.Nat.{ℕ, zero, suc, ◌≤◌}
use Rattle.bits.specs.Bits.{read_field}
use Rattle.bits.specs.declared.Field.{Field as Raw}
use Rattle.bits.specs.declared.Field.TheVariants.{Value, Cut}
use Rattle.bits.specs.Pick.{pick}
use Rattle.layouts.specs.declared.Fault.{Fault}
use Rattle.layouts.specs.declared.Fault.TheVariants as F
use Rattle.layouts.specs.declared.Clash.{Clash}
use Rattle.layouts.specs.declared.Clash.TheVariants.{Clear, At}
use Rattle.layouts.specs.declared.Place.{Place}
use Rattle.numbers.specs.Sum.{All}
use Rattle.bits.specs.Twos.{from_twos}
use Rattle.layouts.specs.Layout.{Layout, Field, Whole, passes, fails, raw, nat, int, ◌then◌, repeated, list, such, held, noted, advanced, begin, settle, tail_fault, read_whole}

-- reading stops with a fault, or goes on with a value of which P holds, whatever it is read for
pub data Outcome {A : Type 0} (P : A → Type 0) (run : (X : Type 0) → (Fault → X) → (A → Place → X) → X) : Type 1 where
  stops : (f : Fault) → ((X : Type 0) (bad : Fault → X) (next : A → Place → X) → run X bad next ≡ bad f) → Outcome P run
  goes : (a : A) (p : Place) → P a → ((X : Type 0) (bad : Fault → X) (next : A → Place → X) → run X bad next ≡ next a p) → Outcome P run

pub record Checked {A : Type 0} (l : Layout A) (P : A → Type 0) : Type 1 where
  pub outcome : (s : List ℕ) (p : Place) → Outcome P (λ X bad next. l.read {X = X} s p bad next)

pub nat-checked : (f : Field) → Checked (nat f) (λ v. (f.low ≤ v) × (v ≤ f.high))
unfolding nat
nat-checked f = record { outcome = λ s p. go s p (read_field s p.at f.width) }
  where
    tests : (p after : Place) (v : ℕ) (a b : Bool) → (T a → f.low ≤ v) → (T b → v ≤ f.high)
        → Outcome (λ v. (f.low ≤ v) × (v ≤ f.high)) (λ X bad next. pick a (pick b (next v after) (bad (f.wrong p.at))) (bad (f.wrong p.at)))
    tests p after v true true g h = goes v after (g tt, h tt) (λ X bad next. refl)
    tests p after v true false g h = stops (f.wrong p.at) (λ X bad next. refl)
    tests p after v false b g h = stops (f.wrong p.at) (λ X bad next. refl)

    go : (s : List ℕ) (p : Place) (r : Raw) → Outcome (λ v. (f.low ≤ v) × (v ≤ f.high))
        (λ X bad next. raw r p bad (λ v after. pick (leb f.low v) (pick (leb v f.high) (next v after) (bad (f.wrong p.at))) (bad (f.wrong p.at))))
    go s p (Value v c) = tests p (advanced p c.at) v (leb f.low v) (leb v f.high) (λ t. leb→le _ _ t) (λ t. leb→le _ _ t)
    go s p (Cut b) = stops (F.Cut p.at) (λ X bad next. refl)

pub held-checked : {A B : Type 0} (to : A → B) (from : B → A) (l : Layout A) (P : A → Type 0) (Q : B → Type 0) → Checked l P → ((a : A) → P a → Q (to a)) → Checked (held to from l) Q
unfolding held
held-checked {A} {B} to from l P Q u h = record { outcome = λ s p. go s p (u.outcome s p) }
  where
    go : (s : List ℕ) (p : Place) → Outcome P (λ X bad next. l.read {X = X} s p bad next) → Outcome Q (λ X bad next. l.read {X = X} s p bad (λ a p. next (to a) p))
    go s p (stops f e) = stops f (λ X bad next. e X bad _)
    go s p (goes a p' k e) = goes (to a) p' (h a k) (λ X bad next. e X bad _)

pub then-checked : {A B : Type 0} (l : Layout A) (m : A → Layout B) (P : A → Type 0) (Q : A → B → Type 0)
    → Checked l P → ((a : A) → P a → Checked (m a) (Q a)) → Checked (l then m) (λ x. P x.0 × Q x.0 x.1)
unfolding ◌then◌
then-checked {A} {B} l m P Q u v = record { outcome = λ s p. first s p (u.outcome s p) }
  where
    second : (s : List ℕ) (p : Place) (a : A) (p' : Place) → P a → ((X : Type 0) (bad : Fault → X) (next : A → Place → X) → l.read s p bad next ≡ next a p')
        → Outcome (Q a) (λ X bad next. (m a).read {X = X} s p' bad next)
        → Outcome (λ (x : A × B). P x.0 × Q x.0 x.1) (λ X bad next. l.read {X = X} s p bad (λ a p. (m a).read s p bad (λ b p. next (a, b) p)))
    second s p a p' k e (stops f g) = stops f (λ X bad next. e X bad _ ∙ g X bad _)
    second s p a p' k e (goes b p'' j g) = goes (a, b) p'' (k, j) (λ X bad next. e X bad _ ∙ g X bad _)

    first : (s : List ℕ) (p : Place) → Outcome P (λ X bad next. l.read {X = X} s p bad next)
        → Outcome (λ (x : A × B). P x.0 × Q x.0 x.1) (λ X bad next. l.read {X = X} s p bad (λ a p. (m a).read s p bad (λ b p. next (a, b) p)))
    first s p (stops f e) = stops f (λ X bad next. e X bad _)
    first s p (goes a p' k e) = second s p a p' k e ((v a k).outcome s p')

pub such-checked : {A : Type 0} (ok : A → Bool) (l : Layout A) (P : A → Type 0) → Checked l P → Checked (such ok l) P
unfolding such
such-checked {A} ok l P u = record { outcome = λ s p. go s p (u.outcome s p) }
  where
    go : (s : List ℕ) (p : Place) → Outcome P (λ X bad next. l.read {X = X} s p bad next) → Outcome P (λ X bad next. l.read {X = X} s p bad (λ a after. next a (noted (ok a) p.at after)))
    go s p (stops f e) = stops f (λ X bad next. e X bad _)
    go s p (goes a p' k e) = goes a (noted (ok a) p.at p') k (λ X bad next. e X bad _)

module _ {A : Type 0} (l : Layout A) (P : A → Type 0) (u : Checked l P) (s : List ℕ) where
  repeated-outcome : (n : ℕ) (p : Place) → Outcome (λ xs. (length xs ≡ n) × All P xs) (λ X bad next. repeated {X = X} l s n p bad next)
  unfolding repeated
  repeated-outcome zero p = goes [] p (refl, tt) (λ X bad next. refl)
  repeated-outcome (suc n) p = first (u.outcome s p) (repeated-outcome n)
    where
      second : (a : A) (p' : Place) → P a → ((X : Type 0) (bad : Fault → X) (next : A → Place → X) → l.read s p bad next ≡ next a p')
          → Outcome (λ xs. (length xs ≡ n) × All P xs) (λ X bad next. repeated {X = X} l s n p' bad next)
          → Outcome (λ xs. (length xs ≡ suc n) × All P xs) (λ X bad next. l.read {X = X} s p bad (λ a p. repeated l s n p bad (λ r p. next (a ∷ r) p)))
      second a p' k e (stops f g) = stops f (λ X bad next. e X bad _ ∙ g X bad _)
      second a p' k e (goes r p'' j g) = goes (a ∷ r) p'' (ap suc j.0, (k, j.1)) (λ X bad next. e X bad _ ∙ g X bad _)

      first : Outcome P (λ X bad next. l.read {X = X} s p bad next)
          → ((p : Place) → Outcome (λ xs. (length xs ≡ n) × All P xs) (λ X bad next. repeated {X = X} l s n p bad next))
          → Outcome (λ xs. (length xs ≡ suc n) × All P xs) (λ X bad next. l.read {X = X} s p bad (λ a p. repeated l s n p bad (λ r p. next (a ∷ r) p)))
      first (stops f e) ih = stops f (λ X bad next. e X bad _)
      first (goes a p' k e) ih = second a p' k e (ih p')

pub list-checked : {A : Type 0} (n : ℕ) (l : Layout A) (P : A → Type 0) → Checked l P → Checked (list n l) (λ xs. (length xs ≡ n) × All P xs)
unfolding list
list-checked n l P u = record { outcome = λ s p. repeated-outcome l P u s n p }

pub int-checked : (w most : ℕ) → Checked (int w most) (λ z. nat_abs z ≤ most)
unfolding int
int-checked w most = record { outcome = λ s p. go s p (read_field s p.at w) }
  where
    test : (p after : Place) (z : ℤ) (a : Bool) → (T a → nat_abs z ≤ most) → Outcome (λ z. nat_abs z ≤ most) (λ X bad next. pick {A = X} a (next z after) (bad (F.OutOfRange p.at)))
    test p after z true g = goes z after (g tt) (λ X bad next. refl)
    test p after z false g = stops (F.OutOfRange p.at) (λ X bad next. refl)

    go : (s : List ℕ) (p : Place) (r : Raw) → Outcome (λ z. nat_abs z ≤ most)
        (λ X bad next. raw {X = X} r p bad (λ v after. pick (leb (nat_abs (from_twos w v)) most) (next (from_twos w v) after) (bad (F.OutOfRange p.at))))
    go s p (Value v c) = test p (advanced p c.at) (from_twos w v) (leb (nat_abs (from_twos w v)) most) (λ t. leb→le _ _ t)
    go s p (Cut b) = stops (F.Cut p.at) (λ X bad next. refl)

-- a message that passes reading is within its ranges
pub whole-checked : {A : Type 0} (l : Layout A) (P : A → Type 0) → Checked l P → (s : List ℕ) (a : A) → read_whole l s ≡ passes a → P a
unfolding read_whole settle
whole-checked {A} l P u s a h = go (u.outcome s begin)
  where
    settled : (x : A) (f c : Clash) → P x → settle x f c ≡ passes a → P a
    settled x (At b) c k e = absurd (let z : ◌≡◌ {A = ℕ} 0 1 = cc in omega arith)
    settled x Clear (At b) k e = absurd (let z : ◌≡◌ {A = ℕ} 0 1 = cc in omega arith)
    settled x Clear Clear k e = let t : x ≡ a = cc in rw (sym t) k

    go : Outcome P (λ X bad next. l.read {X = X} s begin bad next) → P a
    go (stops f e) = absurd (let t = sym (e (Whole A) fails (λ a p. settle a (tail_fault s p.at) p.clash)) ∙ h in let z : ◌≡◌ {A = ℕ} 0 1 = cc in omega arith)
    go (goes x p k e) = settled x (tail_fault s p.at) p.clash k (sym (e (Whole A) fails (λ a p. settle a (tail_fault s p.at) p.clash)) ∙ h)

pub weaken : {A : Type 0} (l : Layout A) (P Q : A → Type 0) → Checked l P → ((a : A) → P a → Q a) → Checked l Q
weaken {A} l P Q u f = record { outcome = λ s p. go s p (u.outcome s p) }
  where
    go : (s : List ℕ) (p : Place) → Outcome P (λ X bad next. l.read {X = X} s p bad next) → Outcome Q (λ X bad next. l.read {X = X} s p bad next)
    go s p (stops g e) = stops g e
    go s p (goes a p' k e) = goes a p' (f a k) e
