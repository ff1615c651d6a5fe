-- The next block: a definition that computes it, and what its answer says.
use Rattle.std.specs.Prelude.{◌≡◌, ◌⊎◌, ◌↔◌, Bool, true, false, not, List, ℕ, zero, suc, ◌≤◌, ◌<◌, T, get_or}
use Rattle.bits.specs.Pick.{pick}
use Rattle.std.specs.Prelude.{Option, Some, None}
use Rattle.block_pick.specs.Order.{ahead, ahead_in}
use Rattle.block_pick.specs.Ranks.{taken, NextIs}

-- of the answer for lower numbers and block k, the one ahead
abbrev pub better : (ℕ → ℕ → Bool) → Option ℕ → ℕ → Option ℕ
better ahead None k = Some k
better ahead (Some j) k = pick (ahead k j) (Some k) (Some j)

-- the next of the first n blocks
unfoldable pub next_up_to : (ℕ → ℕ → Bool) → List Bool → ℕ → Option ℕ
next_up_to ahead picked zero = None
next_up_to ahead picked (suc n) = pick (taken picked n) (next_up_to ahead picked n) (better ahead (next_up_to ahead picked n) n)

-- the next of the n blocks that an offer has
abbrev pub next_of : Bool → List ℕ → ℕ → List Bool → Option ℕ
next_of consuming prices n picked = next_up_to (ahead_in consuming prices) picked n

-- a block answered is the next one; none says that all are picked
abbrev pub Says : (ℕ → ℕ → Bool) → ℕ → List Bool → Option ℕ → Type 0
Says ahead n picked (Some k) = NextIs ahead n picked k
Says ahead n picked None = (k : ℕ) → k < n → T (taken picked k)

-- ---- the request's words: blocks by their numbers, from 1

-- the numbers of an offer's n blocks
abbrev pub Numbered : ℕ → ℕ → Type 0
Numbered n x = (1 ≤ x) × (x ≤ n)

-- block number x stands at the place below x in the offer's arrays
abbrev pub number_of : ℕ → ℕ
number_of k = suc k

abbrev pub price_at : List ℕ → ℕ → ℕ
price_at prices zero = 0
price_at prices (suc k) = get_or prices k 0

abbrev pub picked_at : List Bool → ℕ → Bool
picked_at picked zero = false
picked_at picked (suc k) = taken picked k

-- "cheapest when producing, dearest when consuming"
abbrev pub BetterPriced : Bool → ℕ → ℕ → Type 0
BetterPriced false a b = a < b
BetterPriced true a b = b < a

-- "the best-priced block not yet picked (cheapest when producing, dearest when consuming, lower number first among equals)": x is one of the n, is not picked
-- yet, and every other one not picked yet has a worse price, or the same and a higher number
pub record BestPriced (consuming : Bool) (prices : List ℕ) (n : ℕ) (picked : List Bool) (x : ℕ) : Type 0 where
  pub offered : Numbered n x
  pub fresh : T (not (picked_at picked x))
  pub best : (y : ℕ) → Numbered n y → T (not (picked_at picked y)) → (y ≡ x → ⊥)
      → BetterPriced consuming (price_at prices x) (price_at prices y) ⊎ ((price_at prices x ≡ price_at prices y) × (x < y))

-- "all are picked"
abbrev pub AllPicked : ℕ → List Bool → Type 0
AllPicked n picked = (x : ℕ) → Numbered n x → T (picked_at picked x)

-- the answer for the n blocks of an offer: "each pick is the best-priced block not yet picked .., and finds none exactly when all are picked"; `next-is` says the
-- first part again by the order of picks
pub record Picks (consuming : Bool) (prices : List ℕ) (n : ℕ) (picked : List Bool) (r : Option ℕ) : Type 0 where
  pub is : r ≡ next_of consuming prices n picked
  pub block : (k : ℕ) → r ≡ Some k → BestPriced consuming prices n picked (number_of k)
  pub none : (r ≡ None) ↔ AllPicked n picked
  pub next-is : (k : ℕ) → r ≡ Some k → NextIs (ahead_in consuming prices) n picked k

-- ---- the loop over the blocks

-- an answer for lower numbers
abbrev pub Below : ℕ → Option ℕ → Type 0
Below n None = Unit {0}
Below n (Some k) = k < n
