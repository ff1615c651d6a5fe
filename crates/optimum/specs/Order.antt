-- The earlier offers of a list in the order of merit are those that go ahead: so a filling by `numbers.Fill`, which sorts no list, is the filling in the list's order.
use Rattle.std.specs.Prelude.{Bool, T, ℤ}
use mathlib.Core.List.{List, [], ◌∷◌}
use Rattle.numbers.specs.Sum.{All}
use Rattle.numbers.specs.Fill.{Order}

module _ {A : Type 0} {price : A → ℤ} {ahead : A → A → Bool} (ord : Order price ahead) where
  -- each offer goes ahead of those that follow
  abbrev pub Asc : List A → Type 0
  Asc [] = Unit {0}
  Asc (j ∷ js) = All (λ k. T (ahead j k)) js × Asc js
