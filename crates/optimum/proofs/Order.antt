-- The earlier offers of a list in the order of merit are those that go ahead: so a filling by `numbers.Fill`, which sorts no list, is the filling in the list's order.
use Rattle.std.specs.Prelude.{◌≡◌, refl, Bool, T, eqb, ℤ}
use Rattle.std.proofs.Common.{sym, ◌∙◌, subst, arith}
use Rattle.std.proofs.Math.Path.{ap}
use mathlib.Core.List.{List, [], ◌∷◌, ◌++◌, Permᴰ}
use Prim.Native.Nat.{ℕ, ◌+◌, ◌-◌, min}
use Rattle.numbers.specs.Sum.{sumℕ, sumℕ-append, sumℕ-cong, gate, gate-yes, gate-no, All, all_map}
use Rattle.numbers.specs.Fill.{Order}
use Rattle.optimum.specs.Levels.{of}
use Rattle.optimum.specs.Blocks.{Formula}
use Rattle.optimum.specs.Order.{Asc}

-- a sum does not depend on the order of what is summed
pub sum-perm : {A : Type 0} (f : A → ℕ) {xs ys : List A} → Permᴰ xs ys → sumℕ f xs ≡ sumℕ f ys
sum-perm f Permᴰ.nil = refl
sum-perm f (Permᴰ.cons e p) = omega (arith, ap f e, sum-perm f p)
sum-perm f (Permᴰ.swap e g) = omega (arith, ap f e, ap f g)
sum-perm f (Permᴰ.trans p q) = sum-perm f p ∙ sum-perm f q

module _ {A : Type 0} {price : A → ℤ} {ahead : A → A → Bool} (ord : Order price ahead) where
  all-at : (P : A → Type 0) (ks : List A) (j : A) (ls : List A) → All P (ks ++ j ∷ ls) → P j
  all-at P [] j ls h = h.0
  all-at P (k ∷ ks) j ls h = all-at P ks j ls h.1

  earlier : (ks : List A) (j : A) (ls : List A) → (Asc ord) (ks ++ j ∷ ls) → All (λ k. T (ahead k j)) ks
  earlier [] j ls a = tt
  earlier (k ∷ ks) j ls a = (all-at (λ m. T (ahead k m)) ks j ls a.0, earlier ks j ls a.1)

  later : (ks : List A) (j : A) (ls : List A) → (Asc ord) (ks ++ j ∷ ls) → All (λ k. T (ahead j k)) ls
  later [] j ls a = a.0
  later (k ∷ ks) j ls a = later ks j ls a.1

  none : (f : A → ℕ) (j : A) (ls : List A) → All (λ k. T (ahead j k)) ls → sumℕ (λ k. gate (ahead k j) (f k)) ls ≡ 0
  none f j [] h = refl
  none f j (k ∷ ls) h = omega (arith, gate-no (ahead k j) (f k) (ord.asym j k h.0), none f j ls h.1)

  -- what those ahead have is what the earlier ones have
  pub before-is : (f : A → ℕ) (js ks : List A) (j : A) (ls : List A) → ks ++ j ∷ ls ≡ js → (Asc ord) js → sumℕ (λ k. gate (ahead k j) (f k)) js ≡ sumℕ f ks
  before-is f js ks j ls e a =
      let b = subst (Asc ord) (sym e) a in omega (
        arith,
        ap (sumℕ (λ k. gate (ahead k j) (f k))) e,
        sumℕ-append (λ k. gate (ahead k j) (f k)) ks (j ∷ ls),
        sumℕ-cong (λ k. gate (ahead k j) (f k)) f ks (all_map (λ k t. gate-yes (ahead k j) (f k) t) ks (earlier ks j ls b)),
        gate-no (ahead j j) (f j) (ord.irrefl j),
        none f j ls (later ks j ls b),
      )

  -- each offer's floor, and of what those ahead of it in its set leave as much as fits above it
  pub formula : (set cap floor : A → ℕ) (js : List A) (p : ℕ → ℕ) (x : A → ℕ) → (Asc ord) js
      → ((j : A) → x j ≡ floor j + min (cap j - floor j) (p (set j) - of set floor (set j) js - sumℕ (λ k. gate (ahead k j) (gate (eqb (set k) (set j)) (cap k - floor k))) js))
      → Formula set cap floor js p x
  unfolding of
  formula set cap floor js p x a h ks j ls e =
      h j ∙ ap (λ (n : ℕ). floor j + min (cap j - floor j) (p (set j) - of set floor (set j) js - n)) (before-is (λ k. gate (eqb (set k) (set j)) (cap k - floor k)) js ks j ls e a)
