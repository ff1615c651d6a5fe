-- Of all powers within the bounds that add up to the target, ours have the most in the first offers, however many are counted.
use Rattle.std.specs.Prelude.{◌≡◌, ◌⊎◌}
use mathlib.Core.List.{List, ◌++◌}
use Prim.Native.Nat.{ℕ, ◌+◌, ◌-◌, ◌≤◌, min}
use Rattle.numbers.specs.Sum.{sumℕ, All}
use Rattle.optimum.specs.Levels.{of, level}

module _ {A : Type 0} (set cap floor : A → ℕ) (lo hi : ℕ → ℕ) (sets : List ℕ) (js : List A) (target : ℕ) where
  -- block powers that a dispatch may have
  pub record Feasible (y : A → ℕ) : Type 0 where
    pub above : All (λ j. floor j ≤ y j) js
    pub below : All (λ j. y j ≤ cap j) js
    pub least : All (λ i. lo i ≤ of set y i js) sets
    pub most : All (λ i. of set y i js ≤ hi i) sets
    pub total : sumℕ y js ≡ target

  -- each set stands at or above its level with the first offers raised, or each at or below it
  abbrev pub Balanced : (ℕ → ℕ) → Type 0
  Balanced p = (ks ls : List A) → ks ++ ls ≡ js →
      All (λ i. level (lo i) (hi i) (of set cap i ks + of set floor i ls) ≤ p i) sets
      ⊎ All (λ i. p i ≤ level (lo i) (hi i) (of set cap i ks + of set floor i ls)) sets

  -- each set's power is filled above the floors in the order of merit
  abbrev pub Filled : (ℕ → ℕ) → (A → ℕ) → Type 0
  Filled p x = (ks ls : List A) → ks ++ ls ≡ js → All (λ i. of set x i ks ≡ min (of set cap i ks) (p i - of set floor i ls)) sets

  -- our powers and block powers
  pub record Ours (p : ℕ → ℕ) (x : A → ℕ) : Type 0 where
    pub balanced : Balanced p
    pub filled : Filled p x
    pub held : All (λ i. p i ≤ of set cap i js) sets
    pub total : sumℕ p sets ≡ target
