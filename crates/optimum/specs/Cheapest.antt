-- Powers that have the most in the first offers, however many are counted, cost least, and are the greatest when read in the order of merit.
use Rattle.std.specs.Prelude.{List, [], ◌∷◌, ℕ, ◌≤◌, ℤ, pos, ◌*ℤ◌, ◌≤ℤ◌}
use Rattle.numbers.specs.Sum.{sumℤ}

module _ {A : Type 0} (price : A → ℤ) where
  -- prices that do not fall, from q on
  abbrev pub Rising : ℤ → List A → Type 0
  Rising q [] = Unit {0}
  Rising q (j ∷ js) = (q ≤ℤ price j) × Rising (price j) js

  abbrev pub cost : (A → ℕ) → List A → ℤ
  cost x js = sumℤ (λ j. price j *ℤ pos (x j)) js
