-- The order in which a device's blocks are picked: of any two blocks one goes ahead.
use Rattle.std.specs.Prelude.{◌≡◌, ◌⊎◌, Bool, true, false, List, [], ◌∷◌, ℕ, ◌≤◌, ◌<◌, T, get_or, ℤ, pos, negsuc}
use Rattle.std.proofs.Common.{inl, inr, arith}
use Rattle.std.proofs.Math.Decide.{dec_le}
use Rattle.numbers.specs.Blocks.{first}
use Rattle.numbers.proofs.Blocks.{first-order, apart}
use Rattle.block_pick.specs.Order.{Linear, ahead_in}

first-linear : (price : ℕ → ℤ) → Linear (first price)
first-linear price = record {
  irrefl = (first-order price).irrefl;
  asym = (first-order price).asym;
  trans = (first-order price).trans;
  either = λ j k differ. go j k differ (dec_le j k);
}
  where
    two : (j k : ℕ) → j < k → T (first price k j) ⊎ T (first price j k)
    two j k h = (apart price (j ∷ k ∷ []) ((h, tt), (tt, tt))).0.0

    swap : {A B : Type 0} → A ⊎ B → B ⊎ A
    swap (inl a) = inr a
    swap (inr b) = inl b

    go : (j k : ℕ) → (j ≡ k → ⊥) → Dec (j ≤ k) → T (first price j k) ⊎ T (first price k j)
    go j k differ (yes h) = swap (two j k (omega (arith, differ)))
    go j k differ (no h) = two k j (omega arith)

-- prices as they are when producing, turned round when consuming
pub ahead-linear : (consuming : Bool) (prices : List ℕ) → Linear (ahead_in consuming prices)
ahead-linear false prices = first-linear (λ k. pos (get_or prices k 0))
ahead-linear true prices = first-linear (λ k. negsuc (get_or prices k 0))
