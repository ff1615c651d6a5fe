-- The fill: block k gets the lesser of its cap and what the blocks ahead of it leave of p. No list is sorted to state it.
-- It fills p exactly and has a threshold, so it costs least (Threshold.antt).
use Rattle.std.specs.Prelude.{◌≡◌, refl, ◌⊎◌, Bool, List, [], ◌∷◌, T, ℤ, pos, ◌*ℤ◌, ◌≤ℤ◌}
use Rattle.std.proofs.Common.{sym, ◌∙◌, inl, inr}
use Rattle.std.proofs.Math.Path.{ap}
use Prim.Native.Nat.{ℕ, ◌+◌, ◌-◌, ◌≤◌, min}
use native.Mathlib.Omega.{arith}
use Rattle.std.proofs.Math.Decide.{dec_le}
use Rattle.numbers.specs.Laws as L
use Rattle.numbers.specs.Sum.{sumℤ, sumℕ, sumℕ-cong, sumℕ-pos, gate, gate-yes, gate-no, All, all_map, all-zip, all}
use Rattle.numbers.specs.Threshold.{Cut, Within, least-cost}
use Rattle.numbers.specs.Fill.{Apart, Desc, Order, Same, before, fill}

module _ {A : Type 0} where
  same_refl : (ks : List A) → Same ks ks
  same_refl ks = record { sumsℕ = λ f. refl; alls = λ P h. h; alls⁻ = λ P h. h }

  same-cons : {k : A} {ks ls : List A} → Same ks ls → Same (k ∷ ks) (k ∷ ls)
  same-cons {k} {ks} {ls} s = record {
    sumsℕ = λ f. ap (λ (z : ℕ). f k + z) (s.sumsℕ f);
    alls = λ P h. (h.0, s.alls P h.1);
    alls⁻ = λ P h. (h.0, s.alls⁻ P h.1);
  }

  same-swap : {j k : A} {ks : List A} → Same (j ∷ k ∷ ks) (k ∷ j ∷ ks)
  same-swap {j} {k} {ks} = record {
    sumsℕ = λ f. omega arith;
    alls = λ P h. (h.1.0, (h.0, h.1.1));
    alls⁻ = λ P h. (h.1.0, (h.0, h.1.1));
  }

  same-trans : {ks ls ms : List A} → Same ks ls → Same ls ms → Same ks ms
  same-trans s t = record {
    sumsℕ = λ f. s.sumsℕ f ∙ t.sumsℕ f;
    alls = λ P h. t.alls P (s.alls P h);
    alls⁻ = λ P h. s.alls⁻ P (t.alls⁻ P h);
  }

module _ {A : Type 0} (price : A → ℤ) (cap : A → ℕ) (ahead : A → A → Bool) (ord : Order price ahead) where
  -- a proof's sorted copy; nothing in a statement names it
  insert : (m : A) (s : List A) → All (λ k. T (ahead k m) ⊎ T (ahead m k)) s → Desc ahead s → (l : List A) × Same (m ∷ s) l × Desc ahead l
  insert m [] c d = (m ∷ [], same_refl (m ∷ []), (tt, tt))
  insert m (h ∷ r) c d = go c.0 (insert m r c.1 d.1)
    where
      go : T (ahead h m) ⊎ T (ahead m h) → ((l : List A) × Same (m ∷ r) l × Desc ahead l) → (l : List A) × Same (m ∷ h ∷ r) l × Desc ahead l
      go (inl t) i = (m ∷ h ∷ r, same_refl (m ∷ h ∷ r), ((t, all_map (λ k u. ord.trans k h m u t) r d.0), d))
      go (inr t) i = (h ∷ i.0, same-trans same-swap (same-cons i.1), (i.1.alls (λ k. T (ahead k h)) (t, d.0), i.2))

  sort : (ks : List A) → Apart ahead ks → (l : List A) × Same ks l × Desc ahead l
  sort [] a = ([], same_refl [], tt)
  sort (m ∷ r) a = go (sort r a.1)
    where
      go : ((l : List A) × Same r l × Desc ahead l) → (l : List A) × Same (m ∷ r) l × Desc ahead l
      go i = let j = insert m i.0 (i.1.alls (λ k. T (ahead k m) ⊎ T (ahead m k)) a.0) i.2 in (j.0, same-trans (same-cons i.1) j.1, j.2)

  before_last : (m : A) (r : List A) → All (λ k. T (ahead k m)) r → before cap ahead (m ∷ r) m ≡ sumℕ cap r
  unfolding before
  before_last m r h = rw (gate-no (ahead m m) (cap m) (ord.irrefl m))
      (omega (arith, sumℕ-cong (λ j. gate (ahead j m) (cap j)) cap r (all_map (λ k t. gate-yes (ahead k m) (cap k) t) r h)))

  before-rest : (m : A) (r : List A) (k : A) → T (ahead k m) → before cap ahead (m ∷ r) k ≡ before cap ahead r k
  unfolding before
  before-rest m r k h = rw (gate-no (ahead m k) (cap m) (ord.asym k m h)) (omega arith)

  module _ (p : ℕ) where
    fill-last : (m : A) (r : List A) → All (λ k. T (ahead k m)) r → fill cap ahead p (m ∷ r) m ≡ min (cap m) (p - sumℕ cap r)
    unfolding fill
    fill-last m r h = rw (before_last m r h)

    fill-rest : (m : A) (r : List A) (k : A) → T (ahead k m) → fill cap ahead p (m ∷ r) k ≡ fill cap ahead p r k
    unfolding fill
    fill-rest m r k h = rw (before-rest m r k h)

    total : (s : List A) → Desc ahead s → sumℕ (fill cap ahead p s) s ≡ min p (sumℕ cap s)
    total [] d = omega arith
    total (m ∷ r) d = omega (
      arith,
      fill-last m r d.0,
      total r d.1,
      sumℕ-cong (fill cap ahead p (m ∷ r)) (fill cap ahead p r) r (all_map (λ k t. fill-rest m r k t) r d.0),
    )

    full : (s : List A) → Desc ahead s → sumℕ cap s ≤ p → All (λ k. fill cap ahead p s k ≡ cap k) s
    full [] d h = tt
    full (m ∷ r) d h = (
      omega (arith, fill-last m r d.0),
      all-zip (λ k t e. fill-rest m r k t ∙ e) r d.0 (full r d.1 (omega arith)),
    )

    cut : (s : List A) → Desc ahead s → (u : ℤ) → All (λ k. price k ≤ℤ u) s → (t : ℤ) × (t ≤ℤ u) × All (λ k. Cut t (price k) (cap k) (fill cap ahead p s k)) s
    cut [] d u b = (u, L.≤-refl u, tt)
    cut (m ∷ r) d u b = go (dec_le (sumℕ cap r) p) (cut r d.1 (price m) (all_map (λ k t. ord.cheaper k m t) r d.0))
      where
        go : Dec (sumℕ cap r ≤ p) → ((t : ℤ) × (t ≤ℤ price m) × All (λ k. Cut t (price k) (cap k) (fill cap ahead p r k)) r)
            → (t : ℤ) × (t ≤ℤ u) × All (λ k. Cut t (price k) (cap k) (fill cap ahead p (m ∷ r) k)) (m ∷ r)
        go (yes h) i = (
          price m,
          b.0,
          (
            record { cheap = λ l. absurd (L.<-not-≤ l (L.≤-refl (price m))); dear = λ l. absurd (L.<-not-≤ l (L.≤-refl (price m))) },
            all-zip (λ k t e. record { cheap = λ l. fill-rest m r k t ∙ e; dear = λ l. absurd (L.<-not-≤ l (ord.cheaper k m t)) }) r d.0 (full r d.1 h),
          ),
        )
        go (no h) i = (
          i.0,
          L.≤_trans i.1 b.0,
          (
            record { cheap = λ l. absurd (L.<-not-≤ l i.1); dear = λ l. omega (arith, fill-last m r d.0) },
            all-zip (λ k t c. record { cheap = λ l. fill-rest m r k t ∙ c.cheap l; dear = λ l. fill-rest m r k t ∙ c.dear l }) r d.0 i.2,
          ),
        )

    cut-top : (s : List A) → Desc ahead s → (t : ℤ) × All (λ k. Cut t (price k) (cap k) (fill cap ahead p s k)) s
    cut-top [] d = (pos 0, tt)
    cut-top (m ∷ r) d = go (cut (m ∷ r) d (price m) (L.≤-refl (price m), all_map (λ k t. ord.cheaper k m t) r d.0))
      where
        go : ((t : ℤ) × (t ≤ℤ price m) × All (λ k. Cut t (price k) (cap k) (fill cap ahead p (m ∷ r) k)) (m ∷ r))
            → (t : ℤ) × All (λ k. Cut t (price k) (cap k) (fill cap ahead p (m ∷ r) k)) (m ∷ r)
        go i = (i.0, i.2)

    fill-same : {ks ls : List A} → Same ks ls → (k : A) → fill cap ahead p ks k ≡ fill cap ahead p ls k
    unfolding fill before
    fill-same s k = ap (λ (n : ℕ). min (cap k) (p - n)) (s.sumsℕ (λ j. gate (ahead j k) (cap j)))

    pub fill-total : (ks : List A) → Apart ahead ks → p ≤ sumℕ cap ks → sumℕ (fill cap ahead p ks) ks ≡ p
    fill-total ks a h = go (sort ks a)
      where
        go : ((l : List A) × Same ks l × Desc ahead l) → sumℕ (fill cap ahead p ks) ks ≡ p
        go i = omega (
          arith,
          total i.0 i.2,
          i.1.sumsℕ (fill cap ahead p ks),
          i.1.sumsℕ cap,
          sumℕ-cong (fill cap ahead p ks) (fill cap ahead p i.0) i.0 (all (fill-same i.1) i.0),
        )

    pub fill-cut : (ks : List A) → Apart ahead ks → (t : ℤ) × All (λ k. Cut t (price k) (cap k) (fill cap ahead p ks k)) ks
    fill-cut ks a = go (sort ks a)
      where
        go : ((l : List A) × Same ks l × Desc ahead l) → (t : ℤ) × All (λ k. Cut t (price k) (cap k) (fill cap ahead p ks k)) ks
        go i = let c = cut-top i.0 i.2 in (
          c.0,
          i.1.alls⁻ (λ k. Cut c.0 (price k) (cap k) (fill cap ahead p ks k))
              (all_map (λ k u. record { cheap = λ l. fill-same i.1 k ∙ u.cheap l; dear = λ l. fill-same i.1 k ∙ u.dear l }) i.0 c.1),
        )

    pub fill-within : (ks : List A) (k : A) → fill cap ahead p ks k ≤ cap k
    unfolding fill
    fill-within ks k = omega arith

    -- no rival costs less
    pub fill-least : (ks : List A) → Apart ahead ks → p ≤ sumℕ cap ks → (x : A → ℤ) → All (λ k. Within (cap k) (x k)) ks → sumℤ x ks ≡ pos p
        → sumℤ (λ k. price k *ℤ pos (fill cap ahead p ks k)) ks ≤ℤ sumℤ (λ k. price k *ℤ x k) ks
    fill-least ks a h x w e = let c = fill-cut ks a in least-cost price cap (fill cap ahead p ks) x ks c.0 c.1 w
        (e ∙ ap pos (sym (fill-total ks a h)) ∙ sym (sumℕ-pos (fill cap ahead p ks) ks))
