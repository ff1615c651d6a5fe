-- Blocks picked one after another, in any order of theirs: those ahead of the next one are those picked already.
use Rattle.std.specs.Prelude.{◌≡◌, refl, Bool, true, false, not, List, ℕ, zero, suc, ◌+◌, ◌-◌, ◌≤◌, ◌<◌, T, length, set, replicate}
use Rattle.std.proofs.Math.Path.{ap}
use Rattle.std.proofs.Common.{◌∙◌, arith, T_not, length-set, get_or-set_same, get_or-set_other}
use Rattle.std.proofs.Math.Decide.{ℕ_discrete}
use Rattle.std.proofs.lemmas.List.{length-replicate, get_or-replicate}
use Rattle.numbers.specs.Base.{range, up_to}
use Rattle.numbers.specs.Sum.{sumℕ, sumℕ-cong, gate, gate-no, all}
use Rattle.numbers.specs.Every.{all-up_to, length-range, sum_bound, gate-le}
use Rattle.numbers.specs.Ranges.{sum-last}
use Rattle.numbers.specs.Fill.{before}
use Rattle.block_pick.specs.Order.{Linear}
use Rattle.block_pick.specs.Ranks.{Front, NextIs, Picked, held, more, none, rank_in, taken}

-- ---- sums over numbers below n
sum-none : (f : ℕ → ℕ) → sumℕ f (up_to 0) ≡ 0
unfolding range
sum-none f = refl

sum-zero : (f : ℕ → ℕ) (n : ℕ) → ((j : ℕ) → j < n → f j ≡ 0) → sumℕ f (up_to n) ≡ 0
sum-zero f zero h = sum-none f
sum-zero f (suc n) h = omega (arith, sum-last f n, sum-zero f n (λ j i. h j (omega arith)), h n (omega arith))

pub sum-le : (f g : ℕ → ℕ) (n : ℕ) → ((j : ℕ) → j < n → f j ≤ g j) → sumℕ f (up_to n) ≤ sumℕ g (up_to n)
sum-le f g zero h = omega (arith, sum-none f, sum-none g)
sum-le f g (suc n) h = omega (arith, sum-last f n, sum-last g n, sum-le f g n (λ j i. h j (omega arith)), h n (omega arith))

-- two figures that differ at k only, by d
sum-at : (f g : ℕ → ℕ) (k d : ℕ) → ((j : ℕ) → (j ≡ k → ⊥) → g j ≡ f j) → g k ≡ d + f k → (n : ℕ) → k < n → sumℕ g (up_to n) ≡ d + sumℕ f (up_to n)
sum-at f g k d h e zero i = absurd (omega arith)
sum-at f g k d h e (suc n) i = go (ℕ_discrete n k) (sum-at f g k d h e n)
  where
    go : Dec (n ≡ k) → (k < n → sumℕ g (up_to n) ≡ d + sumℕ f (up_to n)) → sumℕ g (up_to (suc n)) ≡ d + sumℕ f (up_to (suc n))
    go (yes s) r = let same : _ = sumℕ-cong g f (up_to n) (all-up_to (λ j. g j ≡ f j) n (λ j l. h j (λ t. omega arith))) in
        omega (arith, sum-last f n, sum-last g n, ap g s, ap f s)
    go (no s) r = omega (arith, sum-last f n, sum-last g n, r (omega (arith, s)), h n s)

-- ---- one more mark
module _ (picked : List Bool) (k : ℕ) where
  pub marked : k < length picked → taken (set picked k true) k ≡ true
  marked h = get_or-set_same picked k true false h

  pub unmarked : {j : ℕ} → (j ≡ k → ⊥) → taken (set picked k true) j ≡ taken picked j
  unmarked {j} differ = get_or-set_other picked k j true false differ

  pub held_more : (f : ℕ → ℕ) (n : ℕ) → k < length picked → k < n → T (not (taken picked k)) → held f n (set picked k true) ≡ f k + held f n picked
  held_more f n h i fresh = sum-at (λ j. gate (taken picked j) (f j)) (λ j. gate (taken (set picked k true) j) (f j)) k (f k)
      (λ j differ. ap (λ b. gate b (f j)) (unmarked differ))
      (rw (marked h) (omega (arith, gate-no (taken picked k) (f k) fresh)))
      n i

pub held_none : (f : ℕ → ℕ) (n size : ℕ) → n ≤ size → held f n (replicate size false) ≡ 0
held_none f n size l = sum-zero _ n (λ j h. rw (get_or-replicate size j false false (omega arith)))

-- with each pick fewer are left
pub fewer-left : (n : ℕ) (picked : List Bool) (k : ℕ) → n ≤ length picked → k < n → T (not (taken picked k))
    → n - held (λ j. 1) n (set picked k true) < n - held (λ j. 1) n picked
fewer-left n picked k l h fresh = omega (arith, held_more picked k (λ j. 1) n (omega arith) h fresh, most)
  where
    most : held (λ j. 1) n (set picked k true) ≤ n
    most = omega (arith, length-range 0 n, sum_bound _ 1 (up_to n) (all (λ j. gate-le (taken (set picked k true) j) 1 1 (omega arith)) (up_to n)))

-- ---- picks in an order
module _ {ahead : ℕ → ℕ → Bool} (lin : Linear ahead) {n : ℕ} where
  front-none : (size : ℕ) → n ≤ size → Front ahead n (replicate size false)
  front-none size l j k h i t u = absurd (rw (get_or-replicate size j false false (omega arith)) at t)

  front-more : {picked : List Bool} {k : ℕ} → n ≤ length picked → Front ahead n picked → NextIs ahead n picked k → Front ahead n (set picked k true)
  front-more {picked} {k} l front next i j h g t u = go (ℕ_discrete j k) (ℕ_discrete i k)
    where
      go : Dec (j ≡ k) → Dec (i ≡ k) → T (ahead i j)
      go (yes e) d = let v : T (not (taken (set picked k true) k)) = rw e at u in absurd (rw (marked picked k (omega (arith, next.one))) at v)
      go (no e) (yes s) = rw s (next.best j g (rw (unmarked picked k e) at u) e)
      go (no e) (no s) = front i j h g (rw (unmarked picked k s) at t) (rw (unmarked picked k e) at u)

  -- the blocks ahead of the next one are those picked already
  pub ahead-taken : {picked : List Bool} {k : ℕ} → Front ahead n picked → NextIs ahead n picked k → (j : ℕ) → j < n → ahead j k ≡ taken picked j
  ahead-taken {picked} {k} front next j h = go (ahead j k) (taken picked j) (front j k h next.one) behind
    where
      behind : T (ahead j k) → T (not (taken picked j)) → ⊥
      behind t fresh = at (ℕ_discrete j k)
        where
          at : Dec (j ≡ k) → ⊥
          at (yes e) = T_not (ahead k k) (lin.irrefl k) (rw e at t)
          at (no e) = T_not (ahead j k) (lin.asym k j (next.best j h fresh e)) t

      go : (a b : Bool) → (T b → T (not (taken picked k)) → T a) → (T a → T (not b) → ⊥) → a ≡ b
      go true true f g = refl
      go true false f g = absurd (g tt tt)
      go false true f g = absurd (f tt next.fresh)
      go false false f g = refl

  -- so they hold the same of any figure
  pub pick-sum : (f : ℕ → ℕ) {picked : List Bool} {k : ℕ} → Front ahead n picked → NextIs ahead n picked k → before f ahead (up_to n) k ≡ held f n picked
  unfolding before
  pick-sum f {picked} {k} front next = sumℕ-cong _ _ (up_to n) (all-up_to _ n (λ j h. ap (λ b. gate b (f j)) (ahead-taken front next j h)))

  pub picked-length : {picked : List Bool} {m : ℕ} → Picked ahead n picked m → n ≤ length picked
  picked-length (none {size} l) = omega (arith, length-replicate size false)
  picked-length (more {picked} {m} {k} s next) = omega (arith, length-set picked k true, picked-length s)

  pub picked-front : {picked : List Bool} {m : ℕ} → Picked ahead n picked m → Front ahead n picked
  picked-front (none {size} l) = front-none size l
  picked-front (more s next) = front-more (picked-length s) (picked-front s) next

  pub picked-count : {picked : List Bool} {m : ℕ} → Picked ahead n picked m → held (λ j. 1) n picked ≡ m
  picked-count (none {size} l) = held_none (λ j. 1) n size l
  picked-count (more {picked} {m} {k} s next) =
      omega (arith, held_more picked k (λ j. 1) n (omega (arith, picked-length s, next.one)) next.one next.fresh, picked-count s)

  -- the block picked after m others has rank m
  pub pick-rank : {picked : List Bool} {m k : ℕ} → Picked ahead n picked m → NextIs ahead n picked k → rank_in ahead n k ≡ m
  pick-rank s next = pick-sum (λ j. 1) (picked-front s) next ∙ picked-count s
