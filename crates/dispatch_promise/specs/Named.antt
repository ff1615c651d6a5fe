-- Sets that are named once: what is summed over them, and a figure of each.
use Rattle.std.specs.Prelude.{◌≡◌, length, get_or}
use Rattle.std.proofs.Math.Bool.{true, false}
use mathlib.Core.List.{List}
use Prim.Native.Nat.{ℕ, suc, ◌≤◌, ◌<◌}
use Rattle.numbers.specs.Sum.{All}
use Rattle.model.specs.Editions.{most_devices}
use Rattle.dispatching.specs.Dispatch.{among}

-- sets that a case can have
abbrev pub Counted : List ℕ → Type 0
Counted sets = All (λ s. (1 ≤ s) × (s ≤ most_devices)) sets

-- ---- a figure of each

-- set i from 0 is not named, or it is the one at place j
pub data Found (sets : List ℕ) (i : ℕ) : Type 0 where
  absent : among (suc i) sets ≡ false → Found sets i
  present : (j : ℕ) → j < length sets → get_or sets j 0 ≡ suc i → among (suc i) sets ≡ true → Found sets i
