-- Filling above floors: each block its floor, and filling of what is left within what the caps leave above the floors.
use Rattle.std.specs.Prelude.{◌≡◌, ◌⊎◌, Bool, true, false, List, [], ◌∷◌, map, eqb, length, ℤ}
use Rattle.std.proofs.Math.Path.{refl, ap, ap₂}
use Rattle.std.proofs.Common.{sym, ◌∙◌, inl, inr, arith}
use Prim.Native.Nat.{ℕ, zero, suc, ◌+◌, ◌-◌, ◌^◌, ◌≤◌, ◌<◌}
use Rattle.numbers.specs.Base.{range}
use Rattle.numbers.specs.Every.{all-up_to}
use Rattle.numbers.specs.Sum.{sumℕ, sumℕ-cong}
use Rattle.numbers.specs.Fill as F
use Rattle.numbers.specs.Blocks.{cheapest, dearest}
use Rattle.kilowatts.specs.declared.Kw.{Kw}
use Rattle.kilowatts.specs.Power.{kw}
use Rattle.model.specs.Rules.{blocks}
use Rattle.model.specs.Ours.{filling, filling_above}
use Rattle.theorems.specs.Best.{above_floor, above-cap, above-total}
use Rattle.block_fill.specs.Filled.{price_of, cap_of, Offered, Filled, Alike, filling-same, filling-caps, four_same}
use Rattle.block_fill.specs.Steps.{as-four}

-- ---- four powers

abbrev pub sum_of : List Kw → ℕ
sum_of powers = cap_of powers 0 + cap_of powers 1 + cap_of powers 2 + cap_of powers 3

pub sum_is : (powers : List Kw) → sumℕ (cap_of powers) blocks ≡ sum_of powers
unfolding range
sum_is powers = omega arith

-- four powers that are f's
pub record Four (f : ℕ → ℕ) (r : List Kw) : Type 0 where
  pub long : length r ≡ 4
  pub at : (k : ℕ) → k < 4 → cap_of r k ≡ f k

pub four-of : (f : ℕ → ℕ) (a b c d : Kw) → a.0 ≡ f 0 → b.0 ≡ f 1 → c.0 ≡ f 2 → d.0 ≡ f 3 → Four f (a ∷ b ∷ c ∷ d ∷ [])
four-of f a b c d e g h i = record { long = refl; at = at }
  where
    at : (k : ℕ) → k < 4 → cap_of (a ∷ b ∷ c ∷ d ∷ []) k ≡ f k
    at zero l = e
    at (suc zero) l = g
    at (suc (suc zero)) l = h
    at (suc (suc (suc zero))) l = i
    at (suc (suc (suc (suc k)))) l = absurd (omega arith)

-- above floors that are not above their caps an offer has as many blocks
pub room-offered : (floors : List Kw) {n : ℕ} {caps room : List Kw} → Offered n caps → Four (λ k. cap_of caps k - cap_of floors k) room → Offered n room
room-offered floors offer gap = record { few = offer.few; absent = λ k h i. omega (arith, gap.at k i, offer.absent k h i) }

-- no sum of two overflows
pub record SumsFit (floors more : List Kw) : Type 0 where
  pub first : cap_of floors 0 + cap_of more 0 < 2 ^ 32
  pub second : cap_of floors 1 + cap_of more 1 < 2 ^ 32
  pub third : cap_of floors 2 + cap_of more 2 < 2 ^ 32
  pub fourth : cap_of floors 3 + cap_of more 3 < 2 ^ 32

-- a block takes no more than there is
filling-rest : (b : Bool) (f : ℕ → ℤ) (most : ℕ → ℕ) (p k : ℕ) → filling b f most p k ≤ p
unfolding filling cheapest dearest F.fill
filling-rest false f most p k = omega arith
filling-rest true f most p k = omega arith

-- ---- what it depends on

-- without floors it is filling
module _ (p : ℕ) (low most : ℕ → ℕ) (f : ℕ → ℤ) (none : (k : ℕ) → k < 4 → low k ≡ 0) where
  no-sum : sumℕ low blocks ≡ 0
  unfolding range
  no-sum = omega (arith, none 0 (omega arith), none 1 (omega arith), none 2 (omega arith), none 3 (omega arith))

  pub above-none : (b : Bool) (k : ℕ) → k < 4 → filling b f most p k ≡ filling_above b f low most p k
  unfolding filling_above
  above-none b k l =
      let e : p - sumℕ low blocks ≡ p = omega (arith, no-sum) in
      let same : filling b f most p k ≡ filling b f (λ j. most j - low j) p k = filling-caps p most (λ j. most j - low j) f (λ j h. omega (arith, none j h)) b k l in
      rw e (omega (arith, none k l, same))

-- only the floors and the caps of the four, and the prices of blocks whose cap is not 0
module _ (p : ℕ) (low low' most most' : ℕ → ℕ) (f g : ℕ → ℤ) (el : (k : ℕ) → k < 4 → low k ≡ low' k) (em : (k : ℕ) → k < 4 → most k ≡ most' k) (same : Alike most' f g) where
  alike : Alike (λ j. most' j - low' j) f g
  alike k l = go (same k l)
    where
      go : (most' k ≡ 0) ⊎ (f k ≡ g k) → (most' k - low' k ≡ 0) ⊎ (f k ≡ g k)
      go (inl z) = inl (omega arith)
      go (inr e) = inr e

  pub above_same : (b : Bool) (k : ℕ) → k < 4 → filling_above b f low most p k ≡ filling_above b g low' most' p k
  unfolding filling_above
  above_same b k l = ap₂ (λ (a c : ℕ). a + c) (el k l) (
      ap (λ (s : ℕ). filling b f (λ j. most j - low j) (p - s) k) (sumℕ-cong low low' blocks (all-up_to (λ j. low j ≡ low' j) 4 el))
      ∙ filling-caps left (λ j. most j - low j) (λ j. most' j - low' j) f (λ j h. omega (arith, el j h, em j h)) b k l
      ∙ filling-same left (λ j. most' j - low' j) f g alike b k l)
    where
      left : ℕ
      left = p - sumℕ low' blocks

-- ---- the code's answer

-- "Filling .. now needs p at or above the floors too"
pub record FloorsFit (p : ℕ) (floors caps : List Kw) : Type 0 where
  pub below : (k : ℕ) → k < 4 → cap_of floors k ≤ cap_of caps k
  pub least : sum_of floors ≤ p

-- the four powers, for prices kept from 0 with any offset; their total is conserved, and each is from its floor to its cap
pub record FilledAbove (side p : ℕ) (floors caps : List Kw) (prices : List ℕ) (r : List Kw) : Type 0 where
  pub powers : (offset : ℕ) → r ≡ map (λ k. kw (filling_above (eqb side 1) (price_of offset prices) (cap_of floors) (cap_of caps) p k)) blocks
  pub total : p ≤ sumℕ (cap_of caps) blocks → sumℕ (cap_of r) blocks ≡ p
  pub from : (k : ℕ) → k < 4 → cap_of floors k ≤ cap_of r k
  pub to : (k : ℕ) → k < 4 → cap_of r k ≤ cap_of caps k

module _ (side p : ℕ) (floors caps : List Kw) (prices : List ℕ) (fit : FloorsFit p floors caps) where
  abbrev above : ℕ → ℕ → ℕ
  above o = filling_above (eqb side 1) (price_of o prices) (cap_of floors) (cap_of caps) p

  above_of : (r : List Kw) → length r ≡ 4 → ((o k : ℕ) → k < 4 → cap_of r k ≡ above o k) → FilledAbove side p floors caps prices r
  above_of r l h = record {
    powers = λ o. as-four r l ∙ four_same (cap_of r) (above o) (h o);
    total = λ m. sumℕ-cong _ _ blocks (all-up_to _ 4 (h 0)) ∙ above-total (price_of 0 prices) (cap_of floors) (cap_of caps) p fit.below (omega (arith, sum_is floors, fit.least)) m (eqb side 1);
    from = λ k i. omega (arith, h 0 k i, above_floor (eqb side 1) (price_of 0 prices) (cap_of floors) (cap_of caps) p k);
    to = λ k i. omega (arith, h 0 k i, above-cap (price_of 0 prices) (cap_of floors) (cap_of caps) p fit.below (eqb side 1) k i);
  }

  four-at : (f : ℕ → ℕ) (k : ℕ) → k < 4 → cap_of (map (λ j. kw (f j)) blocks) k ≡ f k
  unfolding range
  four-at f zero h = refl
  four-at f (suc zero) h = refl
  four-at f (suc (suc zero)) h = refl
  four-at f (suc (suc (suc zero))) h = refl
  four-at f (suc (suc (suc (suc k)))) h = absurd (omega arith)

  four-long : (f : ℕ → ℕ) → length (map (λ j. kw (f j)) blocks) ≡ 4
  unfolding range
  four-long f = refl

  -- no floor
  pub above-without : {r : List Kw} → sum_of floors ≡ 0 → Filled side p caps prices r → FilledAbove side p floors caps prices r
  above-without {r} z h = above_of r (ap length (h.powers 0) ∙ four-long _) (λ o k i.
      ap (λ (x : List Kw). cap_of x k) (h.powers o) ∙ four-at _ k i ∙ above-none p (cap_of floors) (cap_of caps) (price_of o prices) none (eqb side 1) k i)
    where
      none : (k : ℕ) → k < 4 → cap_of floors k ≡ 0
      none zero l = omega arith
      none (suc zero) l = omega arith
      none (suc (suc zero)) l = omega arith
      none (suc (suc (suc zero))) l = omega arith
      none (suc (suc (suc (suc k)))) l = absurd (omega arith)

  -- what is left, filled above the floors
  module _ {room more : List Kw} {left : ℕ} (gap : Four (λ k. cap_of caps k - cap_of floors k) room) (rest : left ≡ p - sum_of floors) (h : Filled side left room prices more) where
    takes : (o k : ℕ) → k < 4 → cap_of more k ≡ filling (eqb side 1) (price_of o prices) (λ j. cap_of caps j - cap_of floors j) (p - sumℕ (cap_of floors) blocks) k
    takes o k i =
        let e : left ≡ p - sumℕ (cap_of floors) blocks = rest ∙ ap (λ (n : ℕ). p - n) (sym (sum_is floors)) in
        ap (λ (x : List Kw). cap_of x k) (h.powers o) ∙ four-at _ k i
        ∙ ap (λ (n : ℕ). filling (eqb side 1) (price_of o prices) (cap_of room) n k) e
        ∙ filling-caps (p - sumℕ (cap_of floors) blocks) (cap_of room) (λ j. cap_of caps j - cap_of floors j) (price_of o prices) gap.at (eqb side 1) k i

    pub above-with : {r : List Kw} → Four (λ k. cap_of floors k + cap_of more k) r → FilledAbove side p floors caps prices r
    unfolding filling_above
    above-with {r} y = above_of r y.long (λ o k i. y.at k i ∙ ap (λ (n : ℕ). cap_of floors k + n) (takes o k i))

    -- no block goes above p
    most : (k : ℕ) → k < 4 → cap_of more k ≤ p - sum_of floors
    most k i = omega (arith, takes 0 k i, sum_is floors, filling-rest (eqb side 1) (price_of 0 prices) (λ j. cap_of caps j - cap_of floors j) (p - sumℕ (cap_of floors) blocks) k)

    pub sums-fit : p < 2 ^ 32 → SumsFit floors more
    sums-fit l = record {
      first = omega (arith, most 0 (omega arith), fit.least);
      second = omega (arith, most 1 (omega arith), fit.least);
      third = omega (arith, most 2 (omega arith), fit.least);
      fourth = omega (arith, most 3 (omega arith), fit.least);
    }
