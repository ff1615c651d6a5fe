-- The dispatch is within its bounds, adds up to the target, costs least in blocks, and among equals the first offer in the order of merit has the most, then the next.
-- There is one exactly where the target lies between the sums of the bounds.
use Rattle.std.specs.Prelude.{ℕ, ◌≤◌}
use mathlib.Core.List.{List}
use Rattle.optimum.specs.Levels.{of}
use Rattle.optimum.specs.Answer.{answer}

-- a set's bounds lie between its floors and its caps
pub record Bounded {A : Type 0} (set cap floor : A → ℕ) (lo hi : ℕ → ℕ) (js : List A) (i : ℕ) : Type 0 where
  pub floors : of set floor i js ≤ lo i
  pub ordered : lo i ≤ hi i
  pub caps : hi i ≤ of set cap i js

module _ {A : Type 0} (set cap floor : A → ℕ) (lo hi : ℕ → ℕ) (sets : List ℕ) (js : List A) (target : ℕ) where
  -- the heights at the floors
  abbrev pub floors : ℕ → ℕ
  floors i = of set floor i js

  abbrev pub dispatched : ℕ → ℕ
  dispatched = answer set cap floor lo hi sets floors js target
