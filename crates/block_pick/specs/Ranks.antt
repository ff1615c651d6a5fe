-- Blocks picked one after another, in any order of theirs: those ahead of the next one are those picked already.
use Rattle.std.specs.Prelude.{◌≡◌, Bool, true, false, not, List, ℕ, suc, ◌≤◌, ◌<◌, T, get_or, set, replicate}
use Rattle.numbers.specs.Base.{up_to}
use Rattle.numbers.specs.Sum.{sumℕ, gate}
use Rattle.numbers.specs.Fill.{before}

-- block k is marked as picked
abbrev pub taken : List Bool → ℕ → Bool
taken picked k = get_or picked k false

-- block k is the next of n: it is one of them, is not picked yet, and every other block not picked yet goes behind it
pub record NextIs (ahead : ℕ → ℕ → Bool) (n : ℕ) (picked : List Bool) (k : ℕ) : Type 0 where
  pub one : k < n
  pub fresh : T (not (taken picked k))
  pub best : (j : ℕ) → j < n → T (not (taken picked j)) → (j ≡ k → ⊥) → T (ahead k j)

-- the marks after so many picks, each of the block that is next; there may be more marks than blocks
pub data Picked (ahead : ℕ → ℕ → Bool) (n : ℕ) : List Bool → ℕ → Type 0 where
  none : {size : ℕ} → n ≤ size → Picked ahead n (replicate size false) 0
  more : {picked : List Bool} {m k : ℕ} → Picked ahead n picked m → NextIs ahead n picked k → Picked ahead n (set picked k true) (suc m)

-- what the blocks picked hold of a figure
abbrev pub held : (ℕ → ℕ) → ℕ → List Bool → ℕ
held f n picked = sumℕ (λ j. gate (taken picked j) (f j)) (up_to n)

-- a block's rank: how many of n go ahead of it
abbrev pub rank_in : (ℕ → ℕ → Bool) → ℕ → ℕ → ℕ
rank_in ahead n k = before (λ j. 1) ahead (up_to n) k

-- every block picked goes ahead of every block that is not
abbrev pub Front : (ℕ → ℕ → Bool) → ℕ → List Bool → Type 0
Front ahead n picked = (j k : ℕ) → j < n → k < n → T (taken picked j) → T (not (taken picked k)) → T (ahead j k)
