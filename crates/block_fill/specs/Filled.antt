-- Filling over prices kept from 0, whatever the offset; and what it does not depend on.
use Rattle.std.specs.Prelude.{◌≡◌, refl, ◌⊎◌, Bool, List, map, ltb, eqb, get_or, ℤ, pos, neg_ℤ, ◌<ℤ◌}
use Rattle.std.proofs.Math.Path.{ap}
use Rattle.std.proofs.Common.{ap₂, inl, inr}
use Rattle.std.proofs.Math.Bool.{true, false}
use Prim.Native.Nat.{ℕ, ◌-◌, ◌≤◌, ◌<◌, min}
use native.Mathlib.Omega.{arith}
use Rattle.std.specs.Int.Signed.{lt_z, lt_z_yes}
use Rattle.numbers.specs.Z.{whole, n-, n~}
use Rattle.numbers.specs.Sum.{sumℕ, sumℕ-cong, gate, all}
use Rattle.numbers.specs.Fill as F
use Rattle.numbers.specs.Blocks.{first, turned, cheapest, dearest}
use Rattle.kilowatts.specs.declared.Kw.{Kw}
use Rattle.kilowatts.specs.Power.{kw}
use Rattle.numbers.specs.Base.{range}
use Rattle.numbers.specs.Every.{all-up_to}
use Rattle.numbers.specs.Tests.{same_test}
use Rattle.ranges.specs.Kept.{less}
use Rattle.block_pick.specs.Order.{ahead_in}
use Rattle.model.specs.Rules.{blocks}
use Rattle.model.specs.Ours.{filling}
pub use Rattle.theorems.specs.Best.{filling-total}

-- ---- prices kept from 0 order blocks as the prices do

pub kept-lower : (o a b : ℕ) → ltb a b ≡ lt_z (less o a) (less o b)
kept-lower o a b = same_test _ _
    (λ t. let h : pos a <ℤ pos b = record { lt = t } in let r : less o a <ℤ less o b = omega (whole, n- (pos a) (pos o), n- (pos b) (pos o)) in r.lt)
    (λ t. let h : less o a <ℤ less o b = lt_z_yes t in let r : pos a <ℤ pos b = omega (whole, n- (pos a) (pos o), n- (pos b) (pos o)) in r.lt)

neg-lower : (x y : ℤ) → lt_z (neg_ℤ x) (neg_ℤ y) ≡ lt_z y x
neg-lower x y = same_test _ _
    (λ t. let h : neg_ℤ x <ℤ neg_ℤ y = lt_z_yes t in let r : y <ℤ x = omega (whole, n~ x, n~ y) in r.lt)
    (λ t. let h : y <ℤ x = lt_z_yes t in let r : neg_ℤ x <ℤ neg_ℤ y = omega (whole, n~ x, n~ y) in r.lt)

-- the price and the cap of block k, from arrays of four
abbrev pub price_of : ℕ → List ℕ → ℕ → ℤ
price_of offset prices k = less offset (get_or prices k 0)

abbrev pub cap_of : List Kw → ℕ → ℕ
cap_of caps k = (get_or caps k (record { 0 = 0 })).0

-- the order of the prices kept is the order of the prices
module _ (o p : ℕ) (caps : List Kw) (prices : List ℕ) (k : ℕ) where
  lower-first : (j : ℕ) → ahead_in false prices j k ≡ first (price_of o prices) j k
  lower-first j = rw (kept-lower o (get_or prices j 0) (get_or prices k 0), kept-lower o (get_or prices k 0) (get_or prices j 0)) refl

  higher-first : (j : ℕ) → ahead_in true prices j k ≡ first (turned (price_of o prices)) j k
  higher-first j =
      rw (neg-lower (price_of o prices j) (price_of o prices k), neg-lower (price_of o prices k) (price_of o prices j)) (
      rw (kept-lower o (get_or prices j 0) (get_or prices k 0), kept-lower o (get_or prices k 0) (get_or prices j 0)) refl)

  pub fill-is-filling : (b : Bool) → F.fill (cap_of caps) (ahead_in b prices) p blocks k ≡ filling b (price_of o prices) (cap_of caps) p k
  unfolding filling cheapest dearest F.fill F.before
  fill-is-filling false = ap (λ (n : ℕ). min (cap_of caps k) (p - n)) (sumℕ-cong _ _ blocks (all (λ j. ap (λ t. gate t (cap_of caps j)) (lower-first j)) blocks))
  fill-is-filling true = ap (λ (n : ℕ). min (cap_of caps k) (p - n)) (sumℕ-cong _ _ blocks (all (λ j. ap (λ t. gate t (cap_of caps j)) (higher-first j)) blocks))

-- an offer of n blocks, of which a row holds four: those absent have cap 0
pub record Offered (n : ℕ) (caps : List Kw) : Type 0 where
  pub few : n ≤ 4
  pub absent : (k : ℕ) → n ≤ k → k < 4 → cap_of caps k ≡ 0

-- the four powers, for prices kept from 0 with any offset, with their total conserved
pub record Filled (side p : ℕ) (caps : List Kw) (prices : List ℕ) (r : List Kw) : Type 0 where
  pub powers : (offset : ℕ) → r ≡ map (λ k. kw (filling (eqb side 1) (price_of offset prices) (cap_of caps) p k)) blocks
  pub total : p ≤ sumℕ (cap_of caps) blocks → sumℕ (cap_of r) blocks ≡ p

-- ---- only the four caps matter, and the prices of blocks whose cap is not 0

abbrev pub Alike : (ℕ → ℕ) → (ℕ → ℤ) → (ℕ → ℤ) → Type 0
Alike cap f g = (k : ℕ) → k < 4 → (cap k ≡ 0) ⊎ (f k ≡ g k)

module _ (p : ℕ) (cap : ℕ → ℕ) (f g : ℕ → ℤ) (same : Alike cap f g) where
  term : (k : ℕ) → f k ≡ g k → (j : ℕ) → j < 4 → gate (first f j k) (cap j) ≡ gate (first g j k) (cap j)
  term k e j l = go (same j l)
    where
      none : (a b : Bool) → gate a 0 ≡ gate b 0
      none true true = refl
      none true false = refl
      none false true = refl
      none false false = refl

      go : (cap j ≡ 0) ⊎ (f j ≡ g j) → gate (first f j k) (cap j) ≡ gate (first g j k) (cap j)
      go (inl z) = rw z (none (first f j k) (first g j k))
      go (inr h) = rw (h, e) refl

  cheapest-same : (k : ℕ) → k < 4 → cheapest f cap p blocks k ≡ cheapest g cap p blocks k
  unfolding cheapest F.fill F.before
  cheapest-same k l = go (same k l)
    where
      go : (cap k ≡ 0) ⊎ (f k ≡ g k) → min (cap k) (p - sumℕ (λ j. gate (first f j k) (cap j)) blocks) ≡ min (cap k) (p - sumℕ (λ j. gate (first g j k) (cap j)) blocks)
      go (inl z) = omega arith
      go (inr e) = ap (λ (n : ℕ). min (cap k) (p - n)) (sumℕ-cong _ _ blocks (all-up_to (λ j. gate (first f j k) (cap j) ≡ gate (first g j k) (cap j)) 4 (term k e)))

pub filling-same : (p : ℕ) (cap : ℕ → ℕ) (f g : ℕ → ℤ) → Alike cap f g → (b : Bool) (k : ℕ) → k < 4 → filling b f cap p k ≡ filling b g cap p k
unfolding filling dearest cheapest
filling-same p cap f g same false k l = cheapest-same p cap f g same k l
filling-same p cap f g same true k l = cheapest-same p cap (turned f) (turned g) turn k l
  where
    turn : (k : ℕ) → k < 4 → (cap k ≡ 0) ⊎ (neg_ℤ (f k) ≡ neg_ℤ (g k))
    turn k l = go (same k l)
      where
        go : (cap k ≡ 0) ⊎ (f k ≡ g k) → (cap k ≡ 0) ⊎ (neg_ℤ (f k) ≡ neg_ℤ (g k))
        go (inl z) = inl z
        go (inr e) = inr (ap neg_ℤ e)

cheapest-caps : (p : ℕ) (c d : ℕ → ℕ) (f : ℕ → ℤ) → ((k : ℕ) → k < 4 → c k ≡ d k) → (k : ℕ) → k < 4 → cheapest f c p blocks k ≡ cheapest f d p blocks k
unfolding cheapest F.fill F.before
cheapest-caps p c d f e k l =
    ap₂ (λ (a n : ℕ). min a (p - n)) (e k l) (sumℕ-cong _ _ blocks (all-up_to (λ j. gate (first f j k) (c j) ≡ gate (first f j k) (d j)) 4 (λ j m. ap (gate (first f j k)) (e j m))))

pub filling-caps : (p : ℕ) (c d : ℕ → ℕ) (f : ℕ → ℤ) → ((k : ℕ) → k < 4 → c k ≡ d k) → (b : Bool) (k : ℕ) → k < 4 → filling b f c p k ≡ filling b f d p k
unfolding filling dearest cheapest
filling-caps p c d f e false k l = cheapest-caps p c d f e k l
filling-caps p c d f e true k l = cheapest-caps p c d (turned f) e k l

-- four entries that are equal, as a list
pub four_same : (f g : ℕ → ℕ) → ((k : ℕ) → k < 4 → f k ≡ g k) → map (λ k. kw (f k)) blocks ≡ map (λ k. kw (g k)) blocks
unfolding range
four_same f g h = rw (h 0 (omega arith), h 1 (omega arith), h 2 (omega arith), h 3 (omega arith)) refl
