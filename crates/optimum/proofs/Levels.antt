-- Offers in the order of merit, the sets that they belong to, and how high each set stands when the first of them are at their caps and the others at their floors.
use Rattle.std.specs.Prelude.{◌≡◌, Bool, ℕ, ◌+◌, ◌-◌, ◌≤◌, eqb}
use Rattle.std.proofs.Math.Path.{refl, ap}
use Rattle.std.proofs.Common.{◌∙◌}
use Rattle.std.proofs.Math.Bool.{true, false}
use mathlib.Core.List.{List, [], ◌∷◌, ◌++◌}
use native.Mathlib.Omega.{arith}
use Rattle.numbers.specs.Sum.{sumℕ, sumℕ-add, sumℕ-append, gate, All}
use Rattle.optimum.specs.Levels.{Named, of}

module _ {A : Type 0} (set : A → ℕ) where
  pub of-append : (f : A → ℕ) (i : ℕ) (js ks : List A) → of set f i (js ++ ks) ≡ of set f i js + of set f i ks
  unfolding of
  of-append f i js ks = sumℕ-append (λ j. gate (eqb (set j) i) (f j)) js ks

  gate-mono : (b : Bool) (m n : ℕ) → m ≤ n → gate b m ≤ gate b n
  gate-mono true m n h = h
  gate-mono false m n h = omega arith

  pub of-mono : (f g : A → ℕ) (i : ℕ) (js : List A) → All (λ j. f j ≤ g j) js → of set f i js ≤ of set g i js
  unfolding of
  of-mono f g i [] h = omega arith
  of-mono f g i (j ∷ js) h = omega (arith, gate-mono (eqb (set j) i) (f j) (g j) h.0, of-mono f g i js h.1)

  -- over all sets it is what the offers have
  pub of-all : (f : A → ℕ) (sets : List ℕ) (js : List A) → All (λ j. Named sets (set j)) js → sumℕ (λ i. of set f i js) sets ≡ sumℕ f js
  unfolding of
  of-all f sets [] h = none sets
    where
      none : (is : List ℕ) → sumℕ (λ i. 0) is ≡ 0
      none [] = refl
      none (i ∷ is) = omega (arith, none is)
  of-all f sets (j ∷ js) h =
      sumℕ-add (λ i. gate (eqb (set j) i) (f j)) (λ i. sumℕ (λ k. gate (eqb (set k) i) (f k)) js) sets
      ∙ ap (λ (n : ℕ). n + sumℕ (λ i. sumℕ (λ k. gate (eqb (set k) i) (f k)) js) sets) (h.0 (f j))
      ∙ ap (λ (n : ℕ). f j + n) (of-all f sets js h.1)

  -- a cap is a floor and the room above it
  pub of-caps : (cap floor : A → ℕ) (i : ℕ) (js : List A) → All (λ j. floor j ≤ cap j) js → of set cap i js ≡ of set floor i js + of set (λ j. cap j - floor j) i js
  unfolding of
  of-caps cap floor i [] h = omega arith
  of-caps cap floor i (j ∷ js) h = omega (arith, one (eqb (set j) i), of-caps cap floor i js h.1)
    where
      one : (b : Bool) → gate b (cap j) ≡ gate b (floor j) + gate b (cap j - floor j)
      one true = omega (arith, h.0)
      one false = omega arith
