-- Blocks by number: the cheaper is filled first, and of two at one price the lower number.
use Rattle.std.specs.Prelude.{◌≡◌, refl, ◌⊎◌, Bool, true, false, not, List, [], ◌∷◌, map, ℕ, zero, suc, ◌≤◌, ◌<◌, T, ltb, ℤ, negsuc, ◌*ℤ◌, ◌≤ℤ◌, ◌<ℤ◌}
use Rattle.std.proofs.Math.Path.{sym, ap}
use Rattle.std.proofs.Common.{◌∙◌, lt→ltb}
use Rattle.std.proofs.Math.Logic.{inl, inr}
use native.Mathlib.Omega.{arith}
use Rattle.std.proofs.Math.Dec.{ltb→lt, not_T}
use Rattle.std.proofs.Math.IntN.{pos}
use Rattle.std.specs.Int.Signed.{lt_z, lt_z_yes, lt_z_no}
use Rattle.numbers.specs.Z.{whole}
use Rattle.numbers.specs.Laws as L
use Rattle.numbers.specs.Base.{range}
use Rattle.numbers.specs.Sum.{sumℤ, sumℕ, sumℕ-pos, All, all_map}
use Rattle.numbers.specs.Every.{range-ordered}
use Rattle.numbers.specs.Threshold.{Within, most-worth}
use Rattle.numbers.specs.Fill as F
use Rattle.numbers.proofs.Fill as FP
use Rattle.numbers.specs.Fill.{fill, Order, Apart}
use Rattle.numbers.specs.Blocks.{Asc, cheapest, dearest, first, rank, turned}

rank-out : {P : Type 0} (a b c : Bool) → (T a → P) → (T (not b) → T c → P) → T (rank a b c) → P
rank-out true b c f g t = f tt
rank-out false true c f g t = absurd t
rank-out false false c f g t = g tt t

rank-in₁ : (a b c : Bool) → T a → T (rank a b c)
rank-in₁ true b c t = tt
rank-in₁ false b c t = absurd t

rank-in₂ : (a b c : Bool) → T (not b) → T c → T (rank a b c)
rank-in₂ true b c t u = tt
rank-in₂ false true c t u = absurd t
rank-in₂ false false c t u = u

module _ (price : ℕ → ℤ) where
  View : ℕ → ℕ → Type 0
  View j k = (price j <ℤ price k) ⊎ ((price j ≤ℤ price k) × (j < k))

  view : (j k : ℕ) → T (first price j k) → View j k
  unfolding View
  view j k t = rank-out (lt_z (price j) (price k)) (lt_z (price k) (price j)) (ltb j k)
      (λ a. inl (lt_z_yes a)) (λ b c. inr (lt_z_no b, ltb→lt j k c)) t

  first-lt : (j k : ℕ) → price j <ℤ price k → T (first price j k)
  first-lt j k h = rank-in₁ (lt_z (price j) (price k)) (lt_z (price k) (price j)) (ltb j k) h.lt

  first-le : (j k : ℕ) → price j ≤ℤ price k → j < k → T (first price j k)
  first-le j k h i = rank-in₂ (lt_z (price j) (price k)) (lt_z (price k) (price j)) (ltb j k)
      (not_T (lt_z (price k) (price j)) (λ t. L.<-not-≤ (lt_z_yes t) h)) (lt→ltb j k i)

  clash : (j k : ℕ) → View j k → View k j → ⊥
  unfolding View
  clash j k (inl h) (inl i) = L.<-not-≤ h (L.<-≤ i)
  clash j k (inl h) (inr i) = L.<-not-≤ h i.0
  clash j k (inr h) (inl i) = L.<-not-≤ i h.0
  clash j k (inr h) (inr i) = omega arith

  chain : (i j k : ℕ) → View i j → View j k → T (first price i k)
  unfolding View
  chain i j k (inl h) (inl l) = first-lt i k (omega whole)
  chain i j k (inl h) (inr l) = first-lt i k (omega whole)
  chain i j k (inr h) (inl l) = first-lt i k (omega whole)
  chain i j k (inr h) (inr l) = first-le i k (L.≤_trans h.0 l.0) (omega arith)

  below : (j k : ℕ) → View j k → price j ≤ℤ price k
  unfolding View
  below j k (inl h) = L.<-≤ h
  below j k (inr h) = h.0

  pub first-order : Order price (first price)
  first-order = record {
    irrefl = λ k. not_T (first price k k) (λ t. clash k k (view k k t) (view k k t));
    asym = λ j k t. not_T (first price k j) (λ u. clash j k (view j k t) (view k j u));
    trans = λ i j k t u. chain i j k (view i j t) (view j k u);
    cheaper = λ j k t. below j k (view j k t);
  }

  apart₂ : (m k : ℕ) → m < k → T (first price k m) ⊎ T (first price m k)
  apart₂ m k h = go (L.≤-or-> (price m) (price k))
    where
      go : (price m ≤ℤ price k) ⊎ (price k <ℤ price m) → T (first price k m) ⊎ T (first price m k)
      go (inl i) = inr (first-le m k i h)
      go (inr i) = inl (first-lt k m i)

pub asc-range : (k n : ℕ) → Asc (range k n)
asc-range k n = range-ordered (λ i j. i < j) k n (λ i j a b c. b)

pub apart : (price : ℕ → ℤ) (ks : List ℕ) → Asc ks → Apart (first price) ks
apart price [] a = tt
apart price (m ∷ r) a = (all_map (λ k h. apart₂ price m k h) r a.0, apart price r a.1)

module _ (price : ℕ → ℤ) (cap : ℕ → ℕ) (p : ℕ) (ks : List ℕ) (k : ℕ) where
  pub cheapest-cap : cheapest price cap p ks k ≤ cap k
  unfolding cheapest
  cheapest-cap = FP.fill-within price cap (first price) (first-order price) p ks k

  pub dearest-cap : dearest price cap p ks k ≤ cap k
  unfolding dearest
  dearest-cap = FP.fill-within (turned price) cap (first (turned price)) (first-order (turned price)) p ks k

module _ (price : ℕ → ℤ) (cap : ℕ → ℕ) (p : ℕ) (ks : List ℕ) (a : Asc ks) (fits : p ≤ sumℕ cap ks) where
  pub cheapest-total : sumℕ (cheapest price cap p ks) ks ≡ p
  unfolding cheapest
  cheapest-total = FP.fill-total price cap (first price) (first-order price) p ks (apart price ks a) fits

  pub dearest-total : sumℕ (dearest price cap p ks) ks ≡ p
  unfolding dearest
  dearest-total = FP.fill-total (turned price) cap (first (turned price)) (first-order (turned price)) p ks (apart (turned price) ks a) fits

  module _ (x : ℕ → ℤ) (w : All (λ k. Within (cap k) (x k)) ks) (e : sumℤ x ks ≡ pos p) where
    -- producing blocks: no rival costs less
    pub cheapest-least : sumℤ (λ k. price k *ℤ pos (cheapest price cap p ks k)) ks ≤ℤ sumℤ (λ k. price k *ℤ x k) ks
    unfolding cheapest
    cheapest-least = FP.fill-least price cap (first price) (first-order price) p ks (apart price ks a) fits x w e

    -- consuming blocks: no rival is worth more
    pub dearest-most : sumℤ (λ k. price k *ℤ x k) ks ≤ℤ sumℤ (λ k. price k *ℤ pos (dearest price cap p ks k)) ks
    unfolding dearest
    dearest-most =
        let c = FP.fill-cut (turned price) cap (first (turned price)) (first-order (turned price)) p ks (apart (turned price) ks a) in
        most-worth price cap (dearest price cap p ks) x ks c.0 c.1 w (e ∙ ap pos (sym dearest-total) ∙ sym (sumℕ-pos (dearest price cap p ks) ks))

-- an example: prices 5, −2, 5, 1; caps 3, 4, 10, 2; p = 8 gives 2, 4, 0, 2
ex-price : ℕ → ℤ
ex-price zero = pos 5
ex-price (suc zero) = negsuc 1
ex-price (suc (suc zero)) = pos 5
ex-price (suc (suc (suc n))) = pos 1

ex-cap : ℕ → ℕ
ex-cap zero = 3
ex-cap (suc zero) = 4
ex-cap (suc (suc zero)) = 10
ex-cap (suc (suc (suc n))) = 2

ex-fill : map (cheapest ex-price ex-cap 8 (0 ∷ 1 ∷ 2 ∷ 3 ∷ [])) (0 ∷ 1 ∷ 2 ∷ 3 ∷ []) ≡ 2 ∷ 4 ∷ 0 ∷ 2 ∷ []
unfolding cheapest fill F.before ex-price ex-cap
ex-fill = refl
