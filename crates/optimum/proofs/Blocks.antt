-- Block powers: each set's power above its floors, filled in the order of merit.
use Rattle.std.specs.Prelude.{◌≡◌, refl, Bool, true, false, List, [], ◌∷◌, ◌++◌, ℕ, ◌+◌, ◌-◌, ◌≤◌, min, T, eqb}
use Rattle.std.proofs.Common.{sym, ◌∙◌, subst, append_assoc, append-nil, eqb→eq}
use Rattle.std.proofs.Math.Path.{ap}
use native.Mathlib.Omega.{arith}
use Rattle.numbers.specs.Sum.{gate, All, all_map}
use Rattle.optimum.specs.Levels.{of}
use Rattle.optimum.proofs.Levels.{of-append, of-caps}
use Rattle.optimum.specs.Dominates.{Filled}
use Rattle.optimum.proofs.Dominates.{all_split}
use Rattle.optimum.specs.Blocks.{Formula}

module _ {A : Type 0} (set cap floor : A → ℕ) (js : List A) (p : ℕ → ℕ) (x : A → ℕ) where
  abbrev room : A → ℕ
  room j = cap j - floor j

  -- what is left above the floors of a set
  abbrev left : ℕ → ℕ
  left i = p i - of set floor i js

  add : (a g r u y f d : ℕ) → a ≡ g + min r u → y ≡ f + min d (u - r) → a + y ≡ g + f + min (r + d) u
  add a g r u y f d e h = omega arith

  alone : (f : A → ℕ) (i : ℕ) (j : A) (b : Bool) → eqb (set j) i ≡ b → of set f i (j ∷ []) ≡ gate b (f j)
  unfolding of
  alone f i j b e = omega (arith, ap (λ (t : Bool). gate t (f j)) e)

  -- the first offers of a set have their floors, and above them what fits
  abbrev Grown : ℕ → List A → Type 0
  Grown i ks = of set x i ks ≡ of set floor i ks + min (of set room i ks) (left i)

  grown-none : (i : ℕ) → Grown i []
  unfolding of
  grown-none i = omega arith

  close : (a g r q w o c : ℕ) → a ≡ g + min r (q - w) → c ≡ g + r → w ≡ g + o → w ≤ q → a ≡ min c (q - o)
  close a g r q w o c e f h l = omega arith

  module _ (fill : Formula set cap floor js p x) (i : ℕ) where
    one_more : (ks : List A) (j : A) (ls : List A) → ks ++ j ∷ ls ≡ js → Grown i ks → Grown i (ks ++ j ∷ [])
    one_more ks j ls e g = rw (of-append set x i ks (j ∷ []), of-append set floor i ks (j ∷ []), of-append set room i ks (j ∷ [])) (go (eqb (set j) i) refl)
      where
        go : (b : Bool) → eqb (set j) i ≡ b → of set x i ks + of set x i (j ∷ []) ≡ of set floor i ks + of set floor i (j ∷ []) + min (of set room i ks + of set room i (j ∷ [])) (left i)
        go true e' =
            rw (alone x i j true e', alone floor i j true e', alone room i j true e')
            (add (of set x i ks) (of set floor i ks) (of set room i ks) (left i) (x j) (floor j) (room j) g
            (subst (λ (k : ℕ). x j ≡ floor j + min (room j) (p k - of set floor k js - of set room k ks)) (eqb→eq (set j) i (subst T (sym e') tt)) (fill ks j ls e)))
        go false e' = rw (alone x i j false e', alone floor i j false e', alone room i j false e') (add (of set x i ks) (of set floor i ks) (of set room i ks) (left i) 0 0 0 g (omega arith))

    grow : (ls pre ks : List A) → pre ++ (ks ++ ls) ≡ js → Grown i pre → Grown i (pre ++ ks)
    grow ls pre [] e g = subst (λ (l : List A). Grown i l) (sym (append-nil pre)) g
    grow ls pre (j ∷ ks) e g =
        subst (λ (l : List A). Grown i l) (append_assoc pre (j ∷ []) ks)
        (grow ls (pre ++ j ∷ []) ks (append_assoc pre (j ∷ []) (ks ++ ls) ∙ e) (one_more pre j (ks ++ ls) e g))

    grown : (ks ls : List A) → ks ++ ls ≡ js → Grown i ks
    grown ks ls e = grow ls [] ks e (grown-none i)

  -- so each set's power is filled above its floors in the order of merit
  pub filled : (lo hi : ℕ → ℕ) (sets : List ℕ) (target : ℕ) → (Formula set cap floor js p x) → All (λ j. floor j ≤ cap j) js → All (λ i. of set floor i js ≤ p i) sets
      → Filled set cap floor lo hi sets js target p x
  filled lo hi sets target fill fits low ks ls e = all_map (λ i l. one i l) sets low
    where
      one : (i : ℕ) → of set floor i js ≤ p i → of set x i ks ≡ min (of set cap i ks) (p i - of set floor i ls)
      one i l = close (of set x i ks) (of set floor i ks) (of set room i ks) (p i) (of set floor i js) (of set floor i ls) (of set cap i ks) (grown fill i ks ls e)
          (of-caps set cap floor i ks (all_split (λ j. floor j ≤ cap j) ks ls (subst (λ (t : List A). All (λ j. floor j ≤ cap j) t) (sym e) fits)).0)
          (ap (of set floor i) (sym e) ∙ of-append set floor i ks ls) l
