-- A plan's six numbers, set one by one.
use Rattle.std.specs.Prelude.{◌≡◌, refl, List, [], ◌∷◌, ◌++◌, ℕ, ◌≤◌, length, drop, set}
use Rattle.std.proofs.Common.{arith}
use Rattle.tellings.specs.declared.Told.{Told}
use Rattle.stacks.specs.Stack.{row_numbers, row_told}

-- six places set, the last first
pub six-set : (xs : List ℕ) (t : Told) (n : ℕ) → row_numbers ≤ length xs
    → set (set (set (set (set (set xs 5 n) 4 t.fourth) 3 t.third) 2 t.second) 1 t.first) 0 t.word ≡ row_told t n ++ drop row_numbers xs
six-set (_ ∷ _ ∷ _ ∷ _ ∷ _ ∷ _ ∷ xs) t n h = refl
six-set [] t n h = absurd (omega (arith, h))
six-set (_ ∷ []) t n h = absurd (omega (arith, h))
six-set (_ ∷ _ ∷ []) t n h = absurd (omega (arith, h))
six-set (_ ∷ _ ∷ _ ∷ []) t n h = absurd (omega (arith, h))
six-set (_ ∷ _ ∷ _ ∷ _ ∷ []) t n h = absurd (omega (arith, h))
six-set (_ ∷ _ ∷ _ ∷ _ ∷ _ ∷ []) t n h = absurd (omega (arith, h))
