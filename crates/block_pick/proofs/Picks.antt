-- The next block: a definition that computes it, and what its answer says.
use Rattle.std.specs.Prelude.{◌≡◌, refl, ◌⊎◌, Bool, true, false, not, List, [], ◌∷◌, ℕ, zero, suc, ◌+◌, ◌<◌, T, ltb, get_or}
use Rattle.std.proofs.Common.{ap, inl, inr, arith, add-one, ltb-true, ltb-false, T_not, ltb→lt}
use Rattle.std.proofs.Math.Decide.{ℕ_discrete}
use Rattle.numbers.specs.Blocks.{rank}
use Rattle.bits.specs.Pick.{pick}
use Rattle.std.specs.Prelude.{Option, Some, None}
use Rattle.block_pick.specs.Order.{Linear, ahead, ahead_in}
use Rattle.block_pick.proofs.Order.{ahead-linear}
use Rattle.block_pick.specs.Ranks.{taken, NextIs, Picked, rank_in}
use Rattle.block_pick.proofs.Ranks.{pick-rank}
use Rattle.block_pick.specs.Picks.{AllPicked, Below, BestPriced, BetterPriced, Numbered, Picks, Says, better, next_of, next_up_to, number_of, picked_at, price_at}

-- prices 5, 2, 5, 1: the second pick when producing and when consuming, and none
ex-picks : (next_of false (5 ∷ 2 ∷ 5 ∷ 1 ∷ []) 4 (false ∷ false ∷ false ∷ true ∷ []) ≡ Some 1)
    × (next_of true (5 ∷ 2 ∷ 5 ∷ 1 ∷ []) 4 (true ∷ false ∷ false ∷ false ∷ []) ≡ Some 2)
    × (next_of true (5 ∷ 2 ∷ 5 ∷ 1 ∷ []) 4 (true ∷ true ∷ true ∷ true ∷ []) ≡ None)
unfolding next_up_to
ex-picks = (refl, refl, refl)

-- an offer of two blocks at 5 and 2: the first pick and the second when producing, and none; the places without a block are never picked
ex-offered : (next_of false (5 ∷ 2 ∷ 0 ∷ 0 ∷ []) 2 (false ∷ false ∷ false ∷ false ∷ []) ≡ Some 1)
    × (next_of false (5 ∷ 2 ∷ 0 ∷ 0 ∷ []) 2 (false ∷ true ∷ false ∷ false ∷ []) ≡ Some 0)
    × (next_of false (5 ∷ 2 ∷ 0 ∷ 0 ∷ []) 2 (true ∷ true ∷ false ∷ false ∷ []) ≡ None)
unfolding next_up_to
ex-offered = (refl, refl, refl)

-- ---- what the definition's answer says
module _ {ahead : ℕ → ℕ → Bool} (lin : Linear ahead) (picked : List Bool) (n : ℕ) where
  -- block n is picked
  says_same : (r : Option ℕ) → Says ahead n picked r → T (taken picked n) → Says ahead (suc n) picked r
  says_same None s t = all
    where
      all : (k : ℕ) → k < suc n → T (taken picked k)
      all k h = go (ℕ_discrete k n)
        where
          go : Dec (k ≡ n) → T (taken picked k)
          go (yes e) = rw e t
          go (no e) = s k (omega (arith, e))
  says_same (Some k) s t = record { one = omega (arith, s.one); fresh = s.fresh; best = best }
    where
      best : (j : ℕ) → j < suc n → T (not (taken picked j)) → (j ≡ k → ⊥) → T (ahead k j)
      best j h u differ = go (ℕ_discrete j n)
        where
          go : Dec (j ≡ n) → T (ahead k j)
          go (yes e) = absurd (T_not (taken picked n) (rw e at u) t)
          go (no e) = s.best j (omega (arith, e)) u differ

  -- block n is not
  says-better : (r : Option ℕ) → Says ahead n picked r → T (not (taken picked n)) → Says ahead (suc n) picked (better ahead r n)
  says-better None s t = record { one = omega arith; fresh = t; best = best }
    where
      best : (j : ℕ) → j < suc n → T (not (taken picked j)) → (j ≡ n → ⊥) → T (ahead n j)
      best j h u differ = absurd (T_not (taken picked j) u (s j (omega (arith, differ))))
  says-better (Some k) s t = go (ahead n k) (λ a. a) (λ a. a) (lin.either k n (λ e. omega (arith, s.one)))
    where
      over : T (ahead n k) → NextIs ahead (suc n) picked n
      over a = record { one = omega arith; fresh = t; best = best }
        where
          best : (j : ℕ) → j < suc n → T (not (taken picked j)) → (j ≡ n → ⊥) → T (ahead n j)
          best j h u differ = at (ℕ_discrete j k)
            where
              at : Dec (j ≡ k) → T (ahead n j)
              at (yes e) = rw e a
              at (no e) = lin.trans n k j a (s.best j (omega (arith, differ)) u e)

      under : T (ahead k n) → NextIs ahead (suc n) picked k
      under a = record { one = omega (arith, s.one); fresh = s.fresh; best = best }
        where
          best : (j : ℕ) → j < suc n → T (not (taken picked j)) → (j ≡ k → ⊥) → T (ahead k j)
          best j h u differ = at (ℕ_discrete j n)
            where
              at : Dec (j ≡ n) → T (ahead k j)
              at (yes e) = rw e a
              at (no e) = s.best j (omega (arith, e)) u differ

      go : (b : Bool) → (T b → T (ahead n k)) → (T (ahead n k) → T b) → T (ahead k n) ⊎ T (ahead n k) → Says ahead (suc n) picked (pick b (Some n) (Some k))
      go true f g d = over (f tt)
      go false f g (inl a) = under a
      go false f g (inr a) = absurd (g a)

pub next-says : {ahead : ℕ → ℕ → Bool} → Linear ahead → (picked : List Bool) (n : ℕ) → Says ahead n picked (next_up_to ahead picked n)
unfolding next_up_to
next-says lin picked zero = λ k h. absurd (omega arith)
next-says {ahead} lin picked (suc n) = let s = next-says lin picked n in go (taken picked n) (says_same lin picked n r s) (says-better lin picked n r s)
  where
    r : Option ℕ
    r = next_up_to ahead picked n

    go : (b : Bool) → (T b → Says ahead (suc n) picked r) → (T (not b) → Says ahead (suc n) picked (better ahead r n))
        → Says ahead (suc n) picked (pick b r (better ahead r n))
    go true f g = f tt
    go false f g = g tt

-- ---- and in the request's words

-- a block goes ahead by its price, or where prices tie by its number
ahead-priced : (consuming : Bool) (a b : ℕ) (lower : Bool) → T (ahead consuming a b lower) → BetterPriced consuming a b ⊎ ((a ≡ b) × T lower)
ahead-priced consuming a b lower = go consuming (ltb a b) (ltb b a) refl refl
  where
    go : (c x y : Bool) → ltb a b ≡ x → ltb b a ≡ y → T (pick c (rank y x lower) (rank x y lower)) → BetterPriced c a b ⊎ ((a ≡ b) × T lower)
    go false true y e f t = inl (ltb-true a b e)
    go false false true e f t = absurd t
    go false false false e f t = inr (omega (arith, ltb-false a b e, ltb-false b a f), t)
    go true x true e f t = inl (ltb-true b a f)
    go true true false e f t = absurd t
    go true false false e f t = inr (omega (arith, ltb-false a b e, ltb-false b a f), t)

next-best : (consuming : Bool) (prices : List ℕ) (n : ℕ) (picked : List Bool) (k : ℕ) → NextIs (ahead_in consuming prices) n picked k → BestPriced consuming prices n picked (number_of k)
next-best consuming prices n picked k s = record { offered = (omega arith, omega (arith, s.one)); fresh = s.fresh; best = best }
  where
    best : (y : ℕ) → Numbered n y → T (not (picked_at picked y)) → (y ≡ suc k → ⊥)
        → BetterPriced consuming (get_or prices k 0) (price_at prices y) ⊎ ((get_or prices k 0 ≡ price_at prices y) × (suc k < y))
    best zero h u differ = absurd (omega (arith, h.0))
    best (suc j) h u differ = go (ahead-priced consuming (get_or prices k 0) (get_or prices j 0) (ltb k j) (s.best j (omega (arith, h.1)) u (λ e. differ (ap suc e))))
      where
        go : BetterPriced consuming (get_or prices k 0) (get_or prices j 0) ⊎ ((get_or prices k 0 ≡ get_or prices j 0) × T (ltb k j))
            → BetterPriced consuming (get_or prices k 0) (get_or prices j 0) ⊎ ((get_or prices k 0 ≡ get_or prices j 0) × (suc k < suc j))
        go (inl b) = inl b
        go (inr e) = inr (e.0, omega (arith, ltb→lt k j e.1))

-- all are picked, by number and by place
pub all-places : (n : ℕ) (picked : List Bool) → AllPicked n picked → (k : ℕ) → k < n → T (taken picked k)
all-places n picked h k l = h (suc k) (omega arith, omega arith)

all-numbers : (n : ℕ) (picked : List Bool) → ((k : ℕ) → k < n → T (taken picked k)) → AllPicked n picked
all-numbers n picked h zero i = absurd (omega (arith, i.0))
all-numbers n picked h (suc k) i = h k (omega (arith, i.1))

module _ (consuming : Bool) (prices : List ℕ) (n : ℕ) (picked : List Bool) where
  pub picks_of : {r : Option ℕ} → r ≡ next_of consuming prices n picked → Picks consuming prices n picked r
  picks_of {r} e = record {
    is = e;
    block = λ k b. next-best consuming prices n picked k (block r says k b);
    none = (none r says, all r says);
    next-is = block r says;
  }
    where
      says : Says (ahead_in consuming prices) n picked r
      says = rw e (next-says (ahead-linear consuming prices) picked n)

      block : (r : Option ℕ) → Says (ahead_in consuming prices) n picked r → (k : ℕ) → r ≡ Some k → NextIs (ahead_in consuming prices) n picked k
      block r s k e = rw e at s

      none : (r : Option ℕ) → Says (ahead_in consuming prices) n picked r → r ≡ None → AllPicked n picked
      none r s e = all-numbers n picked (rw e at s)

      all : (r : Option ℕ) → Says (ahead_in consuming prices) n picked r → AllPicked n picked → r ≡ None
      all None s h = refl
      all (Some k) s h = absurd (T_not (taken picked k) s.fresh (all-places _ _ h k s.one))

  -- the block answered after m picks has rank m: m of the n go ahead of it
  pub answer-rank : {m k : ℕ} → Picked (ahead_in consuming prices) n picked m → Picks consuming prices n picked (Some k)
      → rank_in (ahead_in consuming prices) n k ≡ m
  answer-rank s r = pick-rank (ahead-linear consuming prices) s (r.next-is _ refl)

module _ (consuming : Bool) (prices : List ℕ) (picked : List Bool) (n : ℕ) {r : Option ℕ} (e : r ≡ next_up_to (ahead_in consuming prices) picked n) where
  pub found_below : Below n r
  found_below = go r (rw e (next-says (ahead-linear consuming prices) picked n))
    where
      go : (r : Option ℕ) → Says (ahead_in consuming prices) n picked r → Below n r
      go None s = tt
      go (Some k) s = s.one

  pub found-same : taken picked n ≡ true → r ≡ next_up_to (ahead_in consuming prices) picked (n + 1)
  unfolding next_up_to
  found-same t = rw (add-one n, t) e

  pub found-better : {s : Option ℕ} → taken picked n ≡ false → s ≡ better (ahead_in consuming prices) r n → s ≡ next_up_to (ahead_in consuming prices) picked (n + 1)
  unfolding next_up_to
  found-better t b = rw (add-one n, t, ← e) b
