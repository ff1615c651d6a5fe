-- Block powers: each set's power above its floors, filled in the order of merit.
use Rattle.std.specs.Prelude.{◌≡◌, List, ◌∷◌, ◌++◌, ℕ, ◌+◌, ◌-◌, min}
use Rattle.optimum.specs.Levels.{of}

module _ {A : Type 0} (set cap floor : A → ℕ) (js : List A) (p : ℕ → ℕ) (x : A → ℕ) where
  -- each offer has its floor, and of what the earlier offers of its set leave as much as fits above it
  abbrev pub Formula : Type 0
  Formula = (ks : List A) (j : A) (ls : List A) → ks ++ j ∷ ls ≡ js → x j ≡ floor j + min (cap j - floor j) (p (set j) - of set floor (set j) js - of set (λ k. cap k - floor k) (set j) ks)
