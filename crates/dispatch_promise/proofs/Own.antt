-- The case's own offers of the named sets: what they have together, that they are told apart, and that a list has one order of merit with them exactly where it is
-- a rearrangement of them.
use Rattle.std.specs.Prelude.{◌≡◌, Bool, ◌||◌, length}
use Rattle.std.proofs.Math.Path.{refl, sym, ap, subst}
use Rattle.std.proofs.Common.{◌∙◌, eq-eqb, ne_eqb, eqb-true}
use Rattle.std.proofs.Math.Logic.{inl, inr, ∥∥₁_elim}
use Rattle.std.proofs.Math.Bool.{true, false}
use mathlib.Core.List.Permᴰ
use mathlib.Core.List.{List, [], ◌∷◌, map, Mem, Permᴰ}
use Prim.Native.Nat.{ℕ, zero, suc, ◌+◌, ◌-◌, ◌*◌, ◌≤◌, ◌<◌}
use native.Mathlib.Omega.{arith}
use Rattle.std.proofs.Math.Decide.{ℕ_discrete}
use Rattle.std.proofs.Math.Dec.{T, T_prop, eqb}
use Rattle.std.proofs.Math.ListN.{get_or-eq_default}
use Rattle.numbers.specs.Base.{range, up_to, gather}
use Rattle.numbers.specs.Sum.{sumℕ, sumℕ-cong, sumℕ-append, gate, All, all, all_map}
use Rattle.numbers.specs.Every.{all-up_to, all-gather, map-of-all, all_in}
use Rattle.numbers.specs.Gather.{gather-size, maps-long}
use Rattle.numbers.specs.Ranges.{sum-last}
use Rattle.numbers.specs.Fill.{Apart}
use Rattle.model.specs.Case.{Case, no_block}
use Rattle.model.specs.Forced.{cell, cap, floor}
use Rattle.model.specs.Rules.{blocks}
use Rattle.offers.specs.declared.Offer.{Offer}
use Rattle.offers.specs.Merit.{ahead, merit}
use Rattle.offers.specs.Same.{same_offer, same-offer, offer-same}
use Rattle.offers.specs.Order.{Told, merit-same}
use Rattle.optimum.specs.Levels.{of}
use Rattle.optimum.proofs.Levels.{of-append}
use Rattle.raising.specs.Raising.{place}
use Rattle.dispatching.specs.Dispatch.{offer_of, offers_of_set, offers_of, among, once}
use Rattle.dispatch_promise.specs.Named.{Counted}
use Rattle.dispatch_promise.proofs.Named.{once-head, once-tail}
use Rattle.dispatch_promise.specs.Rearranged.{Either}
use Rattle.dispatch_promise.proofs.Rearranged.{apart-append, told-apart}
use Rattle.dispatch_promise.specs.Own.{count, q}

sum-map : {A B : Type 0} (f : B → ℕ) (g : A → B) (ks : List A) → sumℕ f (map g ks) ≡ sumℕ (λ k. f (g k)) ks
sum-map f g [] = refl
sum-map f g (k ∷ ks) = omega (arith, sum-map f g ks)

sum-gather : {A B : Type 0} (f : B → ℕ) (g : A → List B) (ks : List A) → sumℕ f (gather g ks) ≡ sumℕ (λ k. sumℕ f (g k)) ks
unfolding gather
sum-gather f g [] = refl
sum-gather f g (k ∷ ks) = omega (arith, sumℕ-append f (g k) (gather g ks), sum-gather f g ks)

sum-gate : {A : Type 0} (b : Bool) (f : A → ℕ) (ks : List A) → sumℕ (λ k. gate b (f k)) ks ≡ gate b (sumℕ f ks)
sum-gate true f ks = refl
sum-gate false f [] = refl
sum-gate false f (k ∷ ks) = omega (arith, sum-gate false f ks)

-- figures beyond the first n are 0
pub sum-wide : (f : ℕ → ℕ) (n d : ℕ) → ((k : ℕ) → n ≤ k → k < n + d → f k ≡ 0) → sumℕ f (up_to n) ≡ sumℕ f (up_to (n + d))
sum-wide f n zero h = let e : n ≡ n + 0 = omega arith in ap (λ (m : ℕ). sumℕ f (up_to m)) e
sum-wide f n (suc d) h =
    let e : suc (n + d) ≡ n + suc d = omega arith in
    let more : sumℕ f (up_to (n + d)) ≡ sumℕ f (up_to (suc (n + d))) = omega (arith, sum-last f (n + d), h (n + d) (omega arith) (omega arith)) in
    sum-wide f n d (λ k l m. h k l (omega arith)) ∙ more ∙ ap (λ (m : ℕ). sumℕ f (up_to m)) e

module _ (c : Case) (t : ℕ) where
  -- what holds of every block of the named sets holds of all offers
  pub own-all : (P : Offer → Type 0) (sets : List ℕ) → All (λ s. (k : ℕ) → k < (count c t) (s - 1) → P (offer_of c t (s - 1) k)) sets → All P (offers_of c t sets)
  unfolding offers_of offers_of_set
  own-all P sets h = all-gather P (λ s. offers_of_set c t (s - 1)) sets (all_map (λ s g. map-of-all P (offer_of c t (s - 1)) (up_to ((count c t) (s - 1))) (all-up_to _ ((count c t) (s - 1)) g)) sets h)

  -- ---- what they have together
  of-set : (f : Offer → ℕ) (i j : ℕ) → of place f i (offers_of_set c t j) ≡ gate (eqb j i) (sumℕ (λ k. f (offer_of c t j k)) (up_to ((count c t) j)))
  unfolding of offers_of_set
  of-set f i j = sum-map (λ o. gate (eqb (place o) i) (f o)) (offer_of c t j) (up_to ((count c t) j))
      ∙ ap (λ (p : ℕ). sumℕ (λ k. gate (eqb p i) (f (offer_of c t j k))) (up_to ((count c t) j))) back ∙ sum-gate (eqb j i) (λ k. f (offer_of c t j k)) (up_to ((count c t) j))
    where
      back : suc j - 1 ≡ j
      back = omega arith

  pub of-own : (f : Offer → ℕ) (sets : List ℕ) → T (once sets) → Counted sets → (i : ℕ)
      → of place f i (offers_of c t sets) ≡ gate (among (suc i) sets) (sumℕ (λ k. f (offer_of c t i k)) (up_to ((count c t) i)))
  unfolding offers_of among of gather
  of-own f [] h n i = refl
  of-own f (s ∷ ss) h n i = of-append place f i (offers_of_set c t (s - 1)) (offers_of c t ss) ∙ (λ k. of-set f i (s - 1) k + of-own f ss (once-tail s ss h) n.1 i k) ∙ go (eqb (suc i) s) refl
    where
      here : ℕ → ℕ
      here j = sumℕ (λ k. f (offer_of c t j k)) (up_to ((count c t) j))

      go : (b : Bool) → eqb (suc i) s ≡ b → gate (eqb (s - 1) i) (here (s - 1)) + gate (among (suc i) ss) (here i) ≡ gate (b || among (suc i) ss) (here i)
      go true e =
          let same : suc i ≡ s = eqb-true (suc i) s e in
          let at : s - 1 ≡ i = omega arith in
          rw (eq-eqb (s - 1) i at, at, subst (λ (k : ℕ). among k ss ≡ false) (sym same) (once-head s ss h)) (omega arith)
      go false e =
          rw (ne_eqb (s - 1) i (λ d. let m : suc i ≡ s = omega (arith, n.0.0) in absurd (let g : true ≡ false = sym (eq-eqb (suc i) s m) ∙ e in subst (λ (b : Bool). T b) g tt))) (omega arith)

  pub sum-own : (f : Offer → ℕ) (sets : List ℕ) → sumℕ f (offers_of c t sets) ≡ sumℕ (λ s. sumℕ (λ k. f (offer_of c t (s - 1) k)) (up_to ((count c t) (s - 1)))) sets
  unfolding offers_of offers_of_set
  sum-own f sets = sum-gather f (λ s. offers_of_set c t (s - 1)) sets ∙ sumℕ-cong _ _ sets (all (λ s. sum-map f (offer_of c t (s - 1)) (up_to ((count c t) (s - 1)))) sets)

  -- absent blocks have no cap and no floor
  pub caps-wide : (i : ℕ) → (count c t) i ≤ 4 → sumℕ (cap (q c t) t i) (up_to ((count c t) i)) ≡ sumℕ (cap (q c t) t i) blocks
  caps-wide i h = sum-wide (cap (q c t) t i) ((count c t) i) (4 - (count c t) i) (λ k l m. ap (λ b. b.cap) (get_or-eq_default (cell (q c t) t i).blocks no_block l))
      ∙ (let e : (count c t) i + (4 - (count c t) i) ≡ 4 = omega arith in ap (λ (m : ℕ). sumℕ (cap (q c t) t i) (up_to m)) e)

  pub floors-wide : (i : ℕ) → (count c t) i ≤ 4 → sumℕ (floor (q c t) t i) (up_to ((count c t) i)) ≡ sumℕ (floor (q c t) t i) blocks
  floors-wide i h = sum-wide (floor (q c t) t i) ((count c t) i) (4 - (count c t) i) (λ k l m. ap (λ b. b.floor) (get_or-eq_default (cell (q c t) t i).blocks no_block l))
      ∙ (let e : (count c t) i + (4 - (count c t) i) ≡ 4 = omega arith in ap (λ (m : ℕ). sumℕ (floor (q c t) t i) (up_to m)) e)

  pub own-long : (sets : List ℕ) → All (λ s. (count c t) (s - 1) ≤ 4) sets → length (offers_of c t sets) ≤ length sets * 4
  unfolding offers_of offers_of_set
  own-long sets h = gather-size (λ s. offers_of_set c t (s - 1)) 4 sets (all_map (λ s l. omega (arith, l, maps-long (offer_of c t (s - 1)) ((count c t) (s - 1)))) sets h)

  -- ---- they are told apart
  apart-row : (i k n : ℕ) → Apart ahead (map (offer_of c t i) (range k n))
  unfolding range
  apart-row i k zero = tt
  apart-row i k (suc n) = (map-of-all (Either (offer_of c t i k)) (offer_of c t i) (range (suc k) n) (later n (suc k) (omega arith)), apart-row i (suc k) n)
    where
      later : (n j : ℕ) → k < j → All (λ l. Either (offer_of c t i k) (offer_of c t i l)) (range j n)
      later zero j h = tt
      later (suc n) j h = (told-apart (offer_of c t i k) (offer_of c t i j) (λ s b. absurd (omega arith)), later n (suc j) (omega arith))

  -- a set that is not among others has none of their offers
  apart-others : (s k : ℕ) → 1 ≤ s → (rs : List ℕ) → among s rs ≡ false → Counted rs → All (λ r. (j : ℕ) → j < (count c t) (r - 1) → Either (offer_of c t (s - 1) k) (offer_of c t (r - 1) j)) rs
  unfolding among
  apart-others s k h [] o m = tt
  apart-others s k h (r ∷ rs) o m = (
    λ j l. told-apart (offer_of c t (s - 1) k) (offer_of c t (r - 1) j)
        (λ e b. differ (eqb s r) refl o (omega (arith, m.0.0))),
    apart-others s k h rs (after (eqb s r) o) m.1,
  )
    where
      differ : (b : Bool) → eqb s r ≡ b → (b || among s rs) ≡ false → s ≡ r → ⊥
      differ true e o' d = subst (λ (x : Bool). T x) o' tt
      differ false e o' d = let g : true ≡ false = sym (eq-eqb s r d) ∙ e in subst (λ (x : Bool). T x) g tt

      after : (b : Bool) → (b || among s rs) ≡ false → among s rs ≡ false
      after true o' = absurd (subst (λ (x : Bool). T x) o' tt)
      after false o' = o'

  pub apart-own : (sets : List ℕ) → T (once sets) → Counted sets → Apart ahead (offers_of c t sets)
  unfolding offers_of offers_of_set gather
  apart-own [] h n = tt
  apart-own (s ∷ ss) h n = apart-append (offers_of_set c t (s - 1)) (offers_of c t ss) (apart-row (s - 1) 0 ((count c t) (s - 1))) (apart-own ss (once-tail s ss h) n.1)
      (map-of-all (λ a. All (Either a) (offers_of c t ss)) (offer_of c t (s - 1)) (up_to ((count c t) (s - 1)))
      (all (λ k. own-all (Either (offer_of c t (s - 1) k)) ss (apart-others s k n.0.0 ss (once-head s ss h) n.1)) (up_to ((count c t) (s - 1)))))

  -- two blocks are one, or they are told apart
  pub told : (i k j l : ℕ) → Told (offer_of c t i k) (offer_of c t j l)
  told i k j l = go (ℕ_discrete i j) (ℕ_discrete k l)
    where
      flip : (a b : Offer) → Either a b → Told a b
      flip a b (inl u) = inr (inr u)
      flip a b (inr u) = inr (inl u)

      go : Dec (i ≡ j) → Dec (k ≡ l) → Told (offer_of c t i k) (offer_of c t j l)
      go (yes e) (yes f) = inl (λ x. offer_of c t (e x) (f x))
      go (yes e) (no d) = flip _ _ (told-apart (offer_of c t i k) (offer_of c t j l) (λ u v. d (omega arith)))
      go (no d) m = flip _ _ (told-apart (offer_of c t i k) (offer_of c t j l) (λ u v. d (omega arith)))

  -- ---- "exactly the blocks"

  -- the same as a test
  told_test : Offer → Offer → Bool
  told_test a b = same_offer a b || (ahead a b || ahead b a)

  or_l : (a b : Bool) → T a → T (a || b)
  or_l true b u = tt
  or_l false b u = absurd u

  or_r : (a b : Bool) → T b → T (a || b)
  or_r true b u = tt
  or_r false b u = u

  to-test : (a b : Offer) → Told a b → T (told_test a b)
  unfolding told_test
  to-test a b (inl e) = or_l (same_offer a b) _ (subst (λ (x : Offer). T (same_offer a x)) e (rw (offer-same a) tt))
  to-test a b (inr (inl u)) = or_r (same_offer a b) _ (or_l (ahead a b) (ahead b a) u)
  to-test a b (inr (inr u)) = or_r (same_offer a b) _ (or_r (ahead a b) (ahead b a) u)

  of_test : (a b : Offer) → T (told_test a b) → Told a b
  unfolding told_test
  of_test a b u = go (same_offer a b) (ahead a b) refl refl u
    where
      go : (x y : Bool) → same_offer a b ≡ x → ahead a b ≡ y → T (x || (y || ahead b a)) → Told a b
      go true y e f v = inl (same-offer a b (rw e tt))
      go false true e f v = inr (inl (rw f tt))
      go false false e f v = inr (inr v)

  in-own : (sets : List ℕ) (P : Offer → Bool) → All (λ o. T (P o)) (offers_of c t sets) → (a : Offer) → Mem a (offers_of c t sets) → T (P a)
  in-own sets P h a m = ∥∥₁_elim m (T_prop (P a)) (λ d. all_in (λ o. T (P o)) (offers_of c t sets) h d)

  told-own : (sets : List ℕ) (a b : Offer) → Mem a (offers_of c t sets) → Mem b (offers_of c t sets) → Told a b
  told-own sets a b m n = of_test a b (in-own sets (λ x. told_test x b) (own-all (λ x. T (told_test x b)) sets (all (λ s k l. in-own sets (told_test (offer_of c t (s - 1) k))
      (own-all (λ y. T (told_test (offer_of c t (s - 1) k) y)) sets (all (λ r j g. to-test _ _ (told (s - 1) k (r - 1) j)) sets)) b n) sets)) a m)

  -- a list has their order of merit exactly where it is a rearrangement of them
  pub exactly : (sets : List ℕ) (offers : List Offer) → Permᴰ offers (offers_of c t sets) → merit offers ≡ merit (offers_of c t sets)
  exactly sets offers p = sym (merit-same (told-own sets) (Permᴰ.symm p))
