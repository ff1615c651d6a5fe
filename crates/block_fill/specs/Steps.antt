-- Filling pick by pick: block k gets the lesser of its cap and what the blocks ahead of it leave, as filling has it.
use Rattle.std.specs.Prelude.{◌≡◌, refl, Bool, not, List, [], ◌∷◌, map, eqb, length, set, replicate}
use Rattle.std.proofs.Common.{sym, ◌∙◌, length-set, get_or-set_same, get_or-set_other}
use Rattle.std.proofs.Math.Path.{ap}
use Rattle.std.proofs.Math.Bool.{true, false}
use Prim.Native.Nat.{ℕ, zero, suc, ◌-◌, ◌≤◌, ◌<◌, min}
use native.Mathlib.Omega.{arith}
use Rattle.std.proofs.Math.Decide.{ℕ_discrete, dec_le}
use Rattle.std.proofs.Math.Dec.{T}
use Rattle.std.proofs.lemmas.List.{get_or-replicate}
use Rattle.numbers.specs.Base.{range, up_to}
use Rattle.numbers.specs.Every.{all-up_to}
use Rattle.numbers.specs.Ranges.{sum-last}
use Rattle.numbers.specs.Sum.{sumℕ, sumℕ-cong, gate}
use Rattle.numbers.specs.Fill as F
use Rattle.kilowatts.specs.declared.Kw.{Kw}
use Rattle.kilowatts.specs.Power.{kw}
use Rattle.block_pick.specs.Order.{Linear, ahead_in}
use Rattle.block_pick.specs.Ranks.{taken, NextIs, Picked, none, more, held, Front}
use Rattle.block_pick.proofs.Ranks.{pick-sum, picked-length, picked-front}
use Rattle.block_pick.proofs.Ranks.{sum-le, marked, unmarked, held_more, held_none}
use Rattle.model.specs.Rules.{blocks}
use Rattle.model.specs.Ours.{filling}
use Rattle.block_fill.specs.Filled.{price_of, cap_of, Offered, Filled, fill-is-filling, filling-total, four_same}

-- after some picks, in any order of n blocks: the caps of those picked are taken off p, each of them has its power, and the others have none, nor has a place
-- without a block
pub record Filling (ahead : ℕ → ℕ → Bool) (n : ℕ) (cap : ℕ → ℕ) (p : ℕ) (picked : List Bool) (power : ℕ → ℕ) (left : ℕ) : Type 0 where
  pub picks : (m : ℕ) × Picked ahead n picked m
  pub rest : left ≡ p - held cap n picked
  pub powers : (k : ℕ) → k < n → power k ≡ gate (taken picked k) (F.fill cap ahead p (up_to n) k)
  pub beyond : (k : ℕ) → n ≤ k → power k ≡ 0

module _ {ahead : ℕ → ℕ → Bool} (lin : Linear ahead) {n : ℕ} {cap : ℕ → ℕ} {p : ℕ} where
  pub filling-none : (size : ℕ) → n ≤ size → (power : ℕ → ℕ) → ((k : ℕ) → power k ≡ 0) → Filling ahead n cap p (replicate size false) power p
  filling-none size l power h = record {
    picks = (0, none l);
    rest = omega (arith, held_none cap n size l);
    powers = λ k i. rw (get_or-replicate size k false false (omega arith)) (h k);
    beyond = λ k i. h k;
  }

  module _ {picked : List Bool} {power : ℕ → ℕ} {left : ℕ} (s : Filling ahead n cap p picked power left) where
    front : Front ahead n picked
    front = picked-front lin s.picks.1

    -- the blocks ahead of the next one are those picked
    own : {k : ℕ} → NextIs ahead n picked k → min (cap k) left ≡ F.fill cap ahead p (up_to n) k
    unfolding F.fill
    own next = omega (arith, s.rest, pick-sum lin cap front next)

    -- the next block takes the lesser of its cap and what is left
    pub filling-more : {k : ℕ} → NextIs ahead n picked k → (after : ℕ → ℕ) (rest : ℕ)
        → after k ≡ min (cap k) left → ((j : ℕ) → (j ≡ k → ⊥) → after j ≡ power j) → rest ≡ left - cap k → Filling ahead n cap p (set picked k true) after rest
    filling-more {k} next after rest e same r = record {
      picks = (suc s.picks.0, more s.picks.1 next);
      rest = omega (arith, s.rest, held_more picked k cap n inside next.one next.fresh);
      powers = λ j h. go j h (ℕ_discrete j k);
      beyond = λ j h. same j (λ i. omega (arith, next.one)) ∙ s.beyond j h;
    }
      where
        inside : k < length picked
        inside = omega (arith, picked-length lin s.picks.1, next.one)

        go : (j : ℕ) → j < n → Dec (j ≡ k) → after j ≡ gate (taken (set picked k true) j) (F.fill cap ahead p (up_to n) j)
        go j h (yes i) = rw (i, marked picked k inside) (e ∙ own next)
        go j h (no i) = rw (unmarked picked k i) (same j i ∙ s.powers j h)

    -- where all are picked, and where nothing is left, each block has its power
    pub filling-all : ((k : ℕ) → k < n → T (taken picked k)) → (k : ℕ) → k < n → power k ≡ F.fill cap ahead p (up_to n) k
    filling-all all k h = go (taken picked k) (all k h) (s.powers k h)
      where
        go : (b : Bool) → T b → power k ≡ gate b (F.fill cap ahead p (up_to n) k) → power k ≡ F.fill cap ahead p (up_to n) k
        go true t e = e
        go false t e = absurd t

    pub filling-out : left ≡ 0 → (k : ℕ) → k < n → power k ≡ F.fill cap ahead p (up_to n) k
    unfolding F.fill F.before
    filling-out z k h = go (taken picked k) (λ j i t. front j k i h t) (s.powers k h)
      where
        at : (a b : Bool) → (T a → T b) → (x : ℕ) → gate a x ≤ gate b x
        at true true f x = omega arith
        at true false f x = absurd (f tt)
        at false b f x = omega arith

        go : (b : Bool) → ((j : ℕ) → j < n → T (taken picked j) → T (not b) → T (ahead j k))
            → power k ≡ gate b (F.fill cap ahead p (up_to n) k) → power k ≡ F.fill cap ahead p (up_to n) k
        go true f e = e
        go false f e = omega (arith, s.rest, sum-le _ _ n (λ j i. at (taken picked j) (ahead j k) (λ t. f j i t tt) (cap j)))

-- ---- blocks that an offer lacks

-- what is 0 from n on adds nothing
sum-rest : (f : ℕ → ℕ) (n m : ℕ) → n ≤ m → ((j : ℕ) → n ≤ j → j < m → f j ≡ 0) → sumℕ f (up_to m) ≡ sumℕ f (up_to n)
sum-rest f n zero l z = let e : n ≡ 0 = omega arith in rw e refl
sum-rest f n (suc m) l z = go (dec_le n m) (λ i. sum-rest f n m i (λ j a b. z j a (omega arith)))
  where
    go : Dec (n ≤ m) → (n ≤ m → sumℕ f (up_to m) ≡ sumℕ f (up_to n)) → sumℕ f (up_to (suc m)) ≡ sumℕ f (up_to n)
    go (yes i) r = omega (arith, sum-last f m, r i, z m i (omega arith))
    go (no i) r = let e : n ≡ suc m = omega arith in rw e refl

gate-nothing : (b : Bool) → gate b 0 ≡ 0
gate-nothing true = refl
gate-nothing false = refl

-- filling of those that it has is filling of all, and one that it lacks gets nothing
module _ (ahead : ℕ → ℕ → Bool) (n m : ℕ) (cap : ℕ → ℕ) (p : ℕ) (few : n ≤ m) (absent : (k : ℕ) → n ≤ k → k < m → cap k ≡ 0) where
  fill-offered : (k : ℕ) → F.fill cap ahead p (up_to n) k ≡ F.fill cap ahead p (up_to m) k
  unfolding F.fill F.before
  fill-offered k = ap (λ (s : ℕ). min (cap k) (p - s)) (sym (sum-rest (λ j. gate (ahead j k) (cap j)) n m few
      (λ j h i. ap (gate (ahead j k)) (absent j h i) ∙ gate-nothing (ahead j k))))

  fill-absent : (k : ℕ) → n ≤ k → k < m → 0 ≡ F.fill cap ahead p (up_to m) k
  unfolding F.fill
  fill-absent k h i = omega (arith, absent k h i)

-- ---- the same on arrays of four

no_power : (k : ℕ) → cap_of (replicate 4 (kw 0)) k ≡ 0
no_power zero = refl
no_power (suc zero) = refl
no_power (suc (suc zero)) = refl
no_power (suc (suc (suc zero))) = refl
no_power (suc (suc (suc (suc k)))) = refl

pub arrays-none : {ahead : ℕ → ℕ → Bool} → Linear ahead → (n : ℕ) → n ≤ 4 → (caps : List Kw) (p : ℕ)
    → Filling ahead n (cap_of caps) p (replicate 4 false) (cap_of (replicate 4 (kw 0))) p
arrays-none lin n few caps p = filling-none lin 4 few _ no_power

module _ {ahead : ℕ → ℕ → Bool} (lin : Linear ahead) {n : ℕ} (few : n ≤ 4) (caps powers : List Kw) {p : ℕ} {picked : List Bool} {left : Kw} (h : length powers ≡ 4)
    (s : Filling ahead n (cap_of caps) p picked (cap_of powers) left.0) where
  pub arrays-more : {k : ℕ} → NextIs ahead n picked k → {power rest : Kw} → power.0 ≡ min (cap_of caps k) left.0 → rest.0 ≡ left.0 - cap_of caps k
      → (length (set powers k power) ≡ 4) × Filling ahead n (cap_of caps) p (set picked k true) (cap_of (set powers k power)) rest.0
  arrays-more {k} next {power} {rest} e r =
      (length-set powers k power ∙ h, filling-more lin s next (cap_of (set powers k power)) rest.0 own others (omega arith))
    where
      own : cap_of (set powers k power) k ≡ min (cap_of caps k) left.0
      own = ap (λ x. x.0) (get_or-set_same powers k power (kw 0) (omega (arith, next.one))) ∙ e

      others : (j : ℕ) → (j ≡ k → ⊥) → cap_of (set powers k power) j ≡ cap_of powers j
      others j differ = ap (λ x. x.0) (get_or-set_other powers k j power (kw 0) differ)

pub as-four : (r : List Kw) → length r ≡ 4 → r ≡ map (λ k. kw (cap_of r k)) blocks
unfolding range
as-four [] l = absurd (omega arith)
as-four (a ∷ []) l = absurd (omega arith)
as-four (a ∷ b ∷ []) l = absurd (omega arith)
as-four (a ∷ b ∷ c ∷ []) l = absurd (omega arith)
as-four (a ∷ b ∷ c ∷ d ∷ []) l = refl
as-four (a ∷ b ∷ c ∷ d ∷ e ∷ r) l = absurd (omega arith)

-- four powers, of which those of the offer's blocks are each as filling has it and the others are 0
module _ (side p n : ℕ) (caps : List Kw) (prices : List ℕ) (offer : Offered n caps) (r : List Kw) (l : length r ≡ 4)
    (h : (k : ℕ) → k < n → cap_of r k ≡ F.fill (cap_of caps) (ahead_in (eqb side 1) prices) p (up_to n) k) (z : (k : ℕ) → n ≤ k → cap_of r k ≡ 0) where
  all-four : (k : ℕ) → k < 4 → cap_of r k ≡ F.fill (cap_of caps) (ahead_in (eqb side 1) prices) p blocks k
  all-four k i = go (dec_le n k)
    where
      go : Dec (n ≤ k) → cap_of r k ≡ F.fill (cap_of caps) (ahead_in (eqb side 1) prices) p blocks k
      go (yes j) = z k j ∙ fill-absent (ahead_in (eqb side 1) prices) n 4 (cap_of caps) p offer.few offer.absent k j i
      go (no j) = h k (omega arith) ∙ fill-offered (ahead_in (eqb side 1) prices) n 4 (cap_of caps) p offer.few offer.absent k

  each : (o k : ℕ) → k < 4 → cap_of r k ≡ filling (eqb side 1) (price_of o prices) (cap_of caps) p k
  each o k i = all-four k i ∙ fill-is-filling o p caps prices k (eqb side 1)

  pub filled_of : Filled side p caps prices r
  filled_of = record {
    powers = λ o. as-four r l ∙ four_same (cap_of r) (filling (eqb side 1) (price_of o prices) (cap_of caps) p) (each o);
    total = λ i. sumℕ-cong _ _ blocks (all-up_to _ 4 (each 0)) ∙ filling-total (eqb side 1) (price_of 0 prices) (cap_of caps) p i;
  }
