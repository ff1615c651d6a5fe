-- The order in which a device's blocks are picked: of any two blocks one goes ahead.
use Rattle.std.specs.Prelude.{◌≡◌, ◌⊎◌, Bool, not, List, ℕ, T, ltb, get_or}
use Rattle.numbers.specs.Blocks.{rank}
use Rattle.bits.specs.Pick.{pick}

-- the cheaper of two blocks first when producing, the dearer when consuming; where prices tie the lower number
abbrev pub ahead : Bool → ℕ → ℕ → Bool → Bool
ahead consuming a b lower = pick consuming (rank (ltb b a) (ltb a b) lower) (rank (ltb a b) (ltb b a) lower)

-- block j goes ahead of block k
abbrev pub ahead_in : Bool → List ℕ → ℕ → ℕ → Bool
ahead_in consuming prices j k = ahead consuming (get_or prices j 0) (get_or prices k 0) (ltb j k)

-- an order in which of any two numbers one goes ahead
pub record Linear (before : ℕ → ℕ → Bool) : Type 0 where
  pub irrefl : (k : ℕ) → T (not (before k k))
  pub asym : (j k : ℕ) → T (before j k) → T (not (before k j))
  pub trans : (i j k : ℕ) → T (before i j) → T (before j k) → T (before i k)
  pub either : (j k : ℕ) → (j ≡ k → ⊥) → T (before j k) ⊎ T (before k j)
