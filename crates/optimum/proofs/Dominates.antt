-- Of all powers within the bounds that add up to the target, ours have the most in the first offers, however many are counted.
use Rattle.std.specs.Prelude.{◌≡◌, ◌⊎◌}
use Rattle.std.proofs.Common.{sym, ◌∙◌, ap, subst, inl, inr}
use mathlib.Core.List.{List, [], ◌∷◌, ◌++◌, append-nil}
use Prim.Native.Nat.{ℕ, ◌+◌, ◌-◌, ◌≤◌, min}
use native.Mathlib.Omega.{arith}
use Rattle.numbers.specs.Sum.{sumℕ, sumℕ-append, sumℕ-mono, sumℕ-cong, All, all-zip}
use Rattle.optimum.specs.Levels.{of, Named, level}
use Rattle.optimum.proofs.Levels.{of-append, of-mono, of-all}
use Rattle.optimum.specs.Dominates.{Feasible, Ours}

pub all_split : {A : Type 0} (P : A → Type 0) (ks ls : List A) → All P (ks ++ ls) → All P ks × All P ls
all_split P [] ls h = (tt, h)
all_split P (k ∷ ks) ls h = let r = all_split P ks ls h.1 in ((h.0, r.0), r.1)

-- one set, whose first offers have caps c and whose others have floors f: a and r are ours of the first and of the others, b and d the rival's
lower : (l h c f p a b d : ℕ) → a ≡ min c (p - f) → b ≤ c → f ≤ d → b + d ≤ h → level l h (c + f) ≤ p → b ≤ a
lower l h c f p a b d e hb hd hh g = omega arith

upper : (l h c f p a r b d : ℕ) → a ≡ min c (p - f) → a + r ≡ p → b ≤ c → f ≤ d → l ≤ b + d → p ≤ level l h (c + f) → r ≤ d
upper l h c f p a r b d e t hb hd hl g = omega arith

module _ {A : Type 0} (set cap floor : A → ℕ) (lo hi : ℕ → ℕ) (sets : List ℕ) (js : List A) (target : ℕ) (named : All (λ j. Named sets (set j)) js)
    (p : ℕ → ℕ) (x : A → ℕ) (ours : Ours set cap floor lo hi sets js target p x) where
  -- our block powers of a set are its power
  pub set-total : All (λ i. of set x i js ≡ p i) sets
  unfolding of
  set-total = all-zip (λ i e h. whole i e h) sets (ours.filled js [] (append-nil js)) ours.held
    where
      whole : (i : ℕ) → of set x i js ≡ min (of set cap i js) (p i - of set floor i []) → p i ≤ of set cap i js → of set x i js ≡ p i
      whole i e h = omega arith

  pub our-total : sumℕ x js ≡ target
  our-total = sym (of-all set x sets js named) ∙ sumℕ-cong (λ i. of set x i js) p sets set-total ∙ ours.total

  module _ (y : A → ℕ) (fe : Feasible set cap floor lo hi sets js target y) (ks ls : List A) (e : ks ++ ls ≡ js) where
    parts : (P : A → Type 0) → All P js → All P ks × All P ls
    parts P h = all_split P ks ls (subst (λ (l : List A). All P l) (sym e) h)

    both : (f : A → ℕ) (i : ℕ) → of set f i ks + of set f i ls ≡ of set f i js
    both f i = sym (of-append set f i ks ls) ∙ ap (of set f i) e

    named_in : All (λ j. Named sets (set j)) ks × All (λ j. Named sets (set j)) ls
    named_in = parts (λ j. Named sets (set j)) named

    -- each set has at least the rival's in the first offers
    more : All (λ i. level (lo i) (hi i) (of set cap i ks + of set floor i ls) ≤ p i) sets → sumℕ y ks ≤ sumℕ x ks
    more g = omega (
      arith,
      of-all set y sets ks named_in.0,
      of-all set x sets ks named_in.0,
      sumℕ-mono (λ i. of set y i ks) (λ i. of set x i ks) sets (all-zip one sets (all-zip (λ i a b. (a, b)) sets g (ours.filled ks ls e)) fe.most),
    )
      where
        one : (i : ℕ) → (level (lo i) (hi i) (of set cap i ks + of set floor i ls) ≤ p i) × (of set x i ks ≡ min (of set cap i ks) (p i - of set floor i ls))
            → of set y i js ≤ hi i → of set y i ks ≤ of set x i ks
        one i g h = lower (lo i) (hi i) (of set cap i ks) (of set floor i ls) (p i) (of set x i ks) (of set y i ks) (of set y i ls) g.1
            (of-mono set y cap i ks (parts (λ j. y j ≤ cap j) fe.below).0) (of-mono set floor y i ls (parts (λ j. floor j ≤ y j) fe.above).1) (omega (arith, both y i)) g.0

    -- each set has at most the rival's in the others
    less : All (λ i. p i ≤ level (lo i) (hi i) (of set cap i ks + of set floor i ls)) sets → sumℕ x ls ≤ sumℕ y ls
    less g = omega (
      arith,
      of-all set y sets ls named_in.1,
      of-all set x sets ls named_in.1,
      sumℕ-mono (λ i. of set x i ls) (λ i. of set y i ls) sets (all-zip one sets (all-zip (λ i a b. (a, b)) sets g (ours.filled ks ls e))
          (all-zip (λ i a b. (a, b)) sets set-total fe.least)),
    )
      where
        one : (i : ℕ) → (p i ≤ level (lo i) (hi i) (of set cap i ks + of set floor i ls)) × (of set x i ks ≡ min (of set cap i ks) (p i - of set floor i ls))
            → (of set x i js ≡ p i) × (lo i ≤ of set y i js) → of set x i ls ≤ of set y i ls
        one i g h = upper (lo i) (hi i) (of set cap i ks) (of set floor i ls) (p i) (of set x i ks) (of set x i ls) (of set y i ks) (of set y i ls) g.1 (omega (arith, both x i, h.0))
            (of-mono set y cap i ks (parts (λ j. y j ≤ cap j) fe.below).0) (of-mono set floor y i ls (parts (λ j. floor j ≤ y j) fe.above).1) (omega (arith, both y i, h.1)) g.0

    pub dominates : sumℕ y ks ≤ sumℕ x ks
    dominates = go (ours.balanced ks ls e)
      where
        go : All (λ i. level (lo i) (hi i) (of set cap i ks + of set floor i ls) ≤ p i) sets ⊎ All (λ i. p i ≤ level (lo i) (hi i) (of set cap i ks + of set floor i ls)) sets
            → sumℕ y ks ≤ sumℕ x ks
        go (inl g) = more g
        go (inr g) = omega (arith, less g, sumℕ-append x ks ls, sumℕ-append y ks ls, ap (sumℕ x) e, ap (sumℕ y) e, our-total, fe.total)
