-- Renumbering n things: sums and largest figures over all of them do not see it.
use Rattle.std.specs.Prelude.{◌≡◌, refl, Bool, true, false, List, [], ◌∷◌, ℕ, zero, suc, ◌+◌, ◌≤◌, ◌<◌, max}
use Rattle.std.proofs.Common.{sym, ◌∙◌, ap, arith, ne_eqb}
use Rattle.std.proofs.Math.Decide.{dec_le}
use lib.Dec.{eqb, eqb_refl}
use lib.IntN.{ℤ, pos, ◌+ℤ◌}
use Rattle.bits.specs.Pick.{pick}
use Rattle.numbers.specs.Z.{at, nat, ◌⊕◌, by≡}
use Rattle.numbers.specs.Base.{range, up_to, largest}
use Rattle.numbers.specs.Sum.{All, all, sumℤ, sumℕ, sum-cong, sum-add, sumℕ-pos}
use Rattle.numbers.specs.Every.{all-range, all-up_to, largest-bound}
use Rattle.renumbering.specs.Permute.{Renumbering, undone}

-- ---- sums
zero-add : (z : ℤ) → pos 0 +ℤ z ≡ z
zero-add z = by≡ (nat 0 ⊕ at z) (at z) (omega arith)

add-zero : (z : ℤ) → z +ℤ pos 0 ≡ z
add-zero z = by≡ (at z ⊕ nat 0) (at z) (omega arith)

pub sum-zero : {A : Type 0} (f : A → ℤ) (ks : List A) → All (λ k. f k ≡ pos 0) ks → sumℤ f ks ≡ pos 0
sum-zero f [] h = refl
sum-zero f (k ∷ ks) h = rw (h.0, sum-zero f ks h.1) refl

-- the sums of the rows are the sums of the columns
pub sum-swap : {A B : Type 0} (f : A → B → ℤ) (js : List A) (ks : List B) → sumℤ (λ j. sumℤ (f j) ks) js ≡ sumℤ (λ k. sumℤ (λ j. f j k) js) ks
sum-swap f [] ks = sym (sum-zero (λ k. pos 0) ks (all (λ k. refl) ks))
sum-swap f (j ∷ js) ks = ap (λ (z : ℤ). sumℤ (f j) ks +ℤ z) (sum-swap f js ks) ∙ sym (sum-add (f j) (λ k. sumℤ (λ j. f j k) js) ks)

-- a sum of which one term counts
pub sum_one : (f : ℕ → ℤ) (m k n : ℕ) → k ≤ m → m < k + n → ((j : ℕ) → j < k + n → (j ≡ m → ⊥) → f j ≡ pos 0) → sumℤ f (range k n) ≡ f m
unfolding range
sum_one f m k zero a b h = absurd (omega arith)
sum_one f m k (suc n) a b h = go (dec_le m k) (λ c. sum_one f m (suc k) n c (omega arith) (λ j d e. h j (omega arith) e))
  where
    go : Dec (m ≤ k) → (suc k ≤ m → sumℤ f (range (suc k) n) ≡ f m) → f k +ℤ sumℤ f (range (suc k) n) ≡ f m
    go (yes e) r =
        let s : k ≡ m = omega arith in
        rw (sum-zero f (range (suc k) n) (all-range (λ j. f j ≡ pos 0) (suc k) n (λ j c d. h j (omega arith) (λ g. absurd (omega arith)))), s) (add-zero (f m))
    go (no e) r = rw (h k (omega arith) (λ g. absurd (omega arith)), r (omega arith)) (zero-add (f m))

-- z where the numbers are equal
abbrev where-equal : ℕ → ℕ → ℤ → ℤ
where-equal a b z = pick (eqb a b) z (pos 0)

equal_is : (a : ℕ) (z : ℤ) → where-equal a a z ≡ z
equal_is a z = go (eqb a a) (eqb_refl a)
  where
    go : (b : Bool) → lib.Dec.T b → pick b z (pos 0) ≡ z
    go true t = refl
    go false t = absurd t

unequal-is : (a b : ℕ) (z : ℤ) → (a ≡ b → ⊥) → where-equal a b z ≡ pos 0
unequal-is a b z h = rw (ne_eqb a b h) refl

module _ {n : ℕ} (r : Renumbering n) where
  pub renumbered-sum : (f g : ℕ → ℤ) → ((i : ℕ) → i < n → g (r.to i) ≡ f i) → sumℤ g (up_to n) ≡ sumℤ f (up_to n)
  renumbered-sum f g h =
      sum-cong g (λ j. sumℤ (λ i. where-equal (r.to i) j (g j)) (up_to n)) (up_to n) (all-up_to _ n column)
      ∙ sum-swap (λ j i. where-equal (r.to i) j (g j)) (up_to n) (up_to n)
      ∙ sum-cong (λ i. sumℤ (λ j. where-equal (r.to i) j (g j)) (up_to n)) f (up_to n) (all-up_to _ n row)
    where
      column : (j : ℕ) → j < n → g j ≡ sumℤ (λ i. where-equal (r.to i) j (g j)) (up_to n)
      column j l = sym (sum_one (λ i. where-equal (r.to i) j (g j)) (r.back j) 0 n (omega arith) (omega (arith, r.back_below j l))
          (λ i k e. unequal-is (r.to i) j (g j) (λ s. e (sym (r.there i (omega arith)) ∙ ap r.back s)))
          ∙ rw (r.again j l) (equal_is j (g j)))

      row : (i : ℕ) → i < n → sumℤ (λ j. where-equal (r.to i) j (g j)) (up_to n) ≡ f i
      row i l = sum_one (λ j. where-equal (r.to i) j (g j)) (r.to i) 0 n (omega arith) (omega (arith, r.to_below i l))
          (λ j k e. unequal-is (r.to i) j (g j) (λ s. e (sym s)))
          ∙ equal_is (r.to i) (g (r.to i)) ∙ h i l

  pub renumbered-sumℕ : (f g : ℕ → ℕ) → ((i : ℕ) → i < n → g (r.to i) ≡ f i) → sumℕ g (up_to n) ≡ sumℕ f (up_to n)
  renumbered-sumℕ f g h = natural (sym (sumℕ-pos g (up_to n)) ∙ renumbered-sum (λ i. pos (f i)) (λ i. pos (g i)) (λ i l. ap pos (h i l)) ∙ sumℕ-pos f (up_to n))
    where
      natural : {a b : ℕ} → pos a ≡ pos b → a ≡ b
      natural e = ap lib.IntN.nat_abs e

-- ---- largest figures
pub largest-at : (f : ℕ → ℕ) (k n j : ℕ) → k ≤ j → j < k + n → f j ≤ largest f (range k n)
unfolding range largest
largest-at f k zero j a b = absurd (omega arith)
largest-at f k (suc n) j a b = go (dec_le j k) (λ c. largest-at f (suc k) n j c (omega arith))
  where
    go : Dec (j ≤ k) → (suc k ≤ j → f j ≤ largest f (range (suc k) n)) → f j ≤ max (f k) (largest f (range (suc k) n))
    go (yes e) r = let s : j ≡ k = omega arith in rw s (omega arith)
    go (no e) r = omega (arith, r (omega arith))

module _ {n : ℕ} (r : Renumbering n) where
  largest-below : (f g : ℕ → ℕ) → ((i : ℕ) → i < n → g (r.to i) ≡ f i) → largest f (up_to n) ≤ largest g (up_to n)
  largest-below f g h = largest-bound f (largest g (up_to n)) (up_to n)
      (all-up_to _ n (λ i l. rw (sym (h i l)) (largest-at g 0 n (r.to i) (omega arith) (omega (arith, r.to_below i l)))))

  -- the same, seen from the other numbers
  pub seen_back : {A : Type 0} (f g : ℕ → A) → ((i : ℕ) → i < n → g (r.to i) ≡ f i) → (j : ℕ) → j < n → f (r.back j) ≡ g j
  seen_back f g h j l = sym (h (r.back j) (r.back_below j l)) ∙ ap g (r.again j l)

pub renumbered-largest : {n : ℕ} (r : Renumbering n) (f g : ℕ → ℕ) → ((i : ℕ) → i < n → g (r.to i) ≡ f i) → largest g (up_to n) ≡ largest f (up_to n)
renumbered-largest r f g h = omega (arith, largest-below r f g h, largest-below (undone r) g f (seen_back r f g h))
