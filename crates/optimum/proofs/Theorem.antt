-- The dispatch is within its bounds, adds up to the target, costs least in blocks, and among equals the first offer in the order of merit has the most, then the next.
-- There is one exactly where the target lies between the sums of the bounds.
use Rattle.std.specs.Prelude.{◌≡◌, refl, ◌⊎◌, get_or, ℕ, ◌+◌, ◌-◌, ◌≤◌, ℤ, ◌≤ℤ◌}
use Rattle.std.proofs.Common.{sym, ◌∙◌, ap, subst, inl, inr}
use mathlib.Core.List.{List, [], ◌∷◌, ◌++◌, append-nil, map}
use native.Mathlib.Omega.{arith}
use Rattle.numbers.specs.Sum.{sumℕ, sumℕ-cong, sumℕ-mono, All, all, all_map, all-zip}
use Rattle.optimum.specs.Levels.{of, Named, level}
use Rattle.optimum.proofs.Levels.{of-append, of-all, of-caps}
use Rattle.optimum.specs.Dominates.{Feasible, Balanced, Ours}
use Rattle.optimum.proofs.Dominates.{dominates, set-total, our-total, all_split}
use Rattle.optimum.specs.Cheapest.{Rising, cost}
use Rattle.optimum.proofs.Cheapest.{least-cost, greatest}
use Rattle.optimum.specs.Answer.{up, ups, power, total, answer, Says}
use Rattle.optimum.proofs.Answer.{says}
use Rattle.optimum.specs.Blocks.{Formula}
use Rattle.optimum.proofs.Blocks.{filled}
use Rattle.optimum.specs.Theorem.{Bounded, dispatched, floors}

-- what holds of an offer at every place of the list holds of all
each : {A : Type 0} (P : A → Type 0) (js : List A) → ((ks : List A) (j : A) (ls : List A) → ks ++ j ∷ ls ≡ js → P j) → All P js
each P [] h = tt
each P (j ∷ js) h = (h [] j js refl, each P js (λ ks k ls e. h (j ∷ ks) k ls (ap (λ l. j ∷ l) e)))

module _ {A : Type 0} (set cap floor : A → ℕ) (lo hi : ℕ → ℕ) (sets : List ℕ) (js : List A) (target : ℕ) where
  -- the heights with the first offers at their caps
  rises : (ks : List A) (w : ℕ → ℕ) (i : ℕ) → ups set cap floor lo hi sets w ks i ≡ w i + of set (λ j. cap j - floor j) i ks
  unfolding ups of
  rises [] w i = omega arith
  rises (j ∷ ks) w i = omega (arith, rises ks (up set cap floor lo hi sets w j) i)

  module _ (fits : All (λ j. floor j ≤ cap j) js) where
    heights : (ks ls : List A) → ks ++ ls ≡ js → (i : ℕ) → ups set cap floor lo hi sets (floors set cap floor lo hi sets js target) ks i ≡ of set cap i ks + of set floor i ls
    heights ks ls e i = omega (
      arith,
      rises ks (floors set cap floor lo hi sets js target) i,
      ap (of set floor i) (sym e),
      of-append set floor i ks ls,
      of-caps set cap floor i ks (all_split (λ j. floor j ≤ cap j) ks ls (subst (λ (t : List A). All (λ j. floor j ≤ cap j) t) (sym e) fits)).0,
    )

    module _ (named : All (λ j. Named sets (set j)) js) (bounded : All (Bounded set cap floor lo hi js) sets) (low : sumℕ lo sets ≤ target) (high : target ≤ sumℕ hi sets) where
      -- at the floors each set has its least power, at the caps its most
      at-floors : (i : ℕ) → Bounded set cap floor lo hi js i → power set cap floor lo hi sets (floors set cap floor lo hi sets js target) i ≡ lo i
      at-floors i b = let f = b.floors in let o = b.ordered in omega arith

      at-caps : (i : ℕ) → Bounded set cap floor lo hi js i → power set cap floor lo hi sets (ups set cap floor lo hi sets (floors set cap floor lo hi sets js target) js) i ≡ hi i
      at-caps i b = let c = b.caps in let o = b.ordered in let h = heights js [] (append-nil js) i in omega (arith, most (ups set cap floor lo hi sets (floors set cap floor lo hi sets js target) js i) (omega (arith, h)))
        where
          most : (w : ℕ) → of set cap i js ≤ w → level (lo i) (hi i) w ≡ hi i
          most w l = let c = b.caps in let o = b.ordered in omega arith

      said : Says set cap floor lo hi sets (floors set cap floor lo hi sets js target) js target (dispatched set cap floor lo hi sets js target)
      said = says set cap floor lo hi sets js (floors set cap floor lo hi sets js target) target named
          (omega (arith, low, sumℕ-cong (power set cap floor lo hi sets (floors set cap floor lo hi sets js target)) lo sets (all_map at-floors sets bounded)))
          (omega (arith, high, sumℕ-cong (power set cap floor lo hi sets (ups set cap floor lo hi sets (floors set cap floor lo hi sets js target) js)) hi sets (all_map at-caps sets bounded)))

      pub within : All (λ i. (lo i ≤ (dispatched set cap floor lo hi sets js target) i) × ((dispatched set cap floor lo hi sets js target) i ≤ hi i)) sets
      within = all_map (λ i b. (omega (arith, at-floors i b, said.low i), omega (arith, at-caps i b, said.high i))) sets bounded

      pub adds-up : sumℕ (dispatched set cap floor lo hi sets js target) sets ≡ target
      adds-up = said.sum

      balanced : Balanced set cap floor lo hi sets js target (dispatched set cap floor lo hi sets js target)
      balanced ks ls e = go (said.even ks ls e)
        where
          lev : (i : ℕ) → power set cap floor lo hi sets (ups set cap floor lo hi sets (floors set cap floor lo hi sets js target) ks) i ≡ level (lo i) (hi i) (of set cap i ks + of set floor i ls)
          lev i = ap (level (lo i) (hi i)) (heights ks ls e i)

          go : ((i : ℕ) → power set cap floor lo hi sets (ups set cap floor lo hi sets (floors set cap floor lo hi sets js target) ks) i ≤ (dispatched set cap floor lo hi sets js target) i)
              ⊎ ((i : ℕ) → (dispatched set cap floor lo hi sets js target) i ≤ power set cap floor lo hi sets (ups set cap floor lo hi sets (floors set cap floor lo hi sets js target) ks) i)
              → All (λ i. level (lo i) (hi i) (of set cap i ks + of set floor i ls) ≤ (dispatched set cap floor lo hi sets js target) i) sets
              ⊎ All (λ i. (dispatched set cap floor lo hi sets js target) i ≤ level (lo i) (hi i) (of set cap i ks + of set floor i ls)) sets
          go (inl h) = inl (all (λ i. subst (λ (n : ℕ). n ≤ (dispatched set cap floor lo hi sets js target) i) (lev i) (h i)) sets)
          go (inr h) = inr (all (λ i. subst (λ (n : ℕ). (dispatched set cap floor lo hi sets js target) i ≤ n) (lev i) (h i)) sets)

      module _ (x : A → ℕ) (fill : Formula set cap floor js (dispatched set cap floor lo hi sets js target) x) where
        ours : Ours set cap floor lo hi sets js target (dispatched set cap floor lo hi sets js target) x
        ours = record {
          balanced = balanced;
          filled = filled set cap floor js (dispatched set cap floor lo hi sets js target) x lo hi sets target fill fits (all-zip (λ i b w. omega (arith, b.floors, w.0)) sets bounded within);
          held = all-zip (λ i b w. omega (arith, b.caps, w.1)) sets bounded within;
          total = adds-up;
        }

        -- no other such powers cost less in blocks
        pub cheapest : (price : A → ℤ) (q : ℤ) → Rising price q js → (y : A → ℕ) → Feasible set cap floor lo hi sets js target y → cost price x js ≤ℤ cost price y js
        cheapest price q r y fe = least-cost price x y js q r (dominates set cap floor lo hi sets js target named (dispatched set cap floor lo hi sets js target) x ours y fe)
            (fe.total ∙ sym (our-total set cap floor lo hi sets js target named (dispatched set cap floor lo hi sets js target) x ours))

        -- the first offer has the most, then the next
        pub first-most : (y : A → ℕ) → Feasible set cap floor lo hi sets js target y → (ks : List A) (j : A) (ls : List A)
            → ks ++ j ∷ ls ≡ js → All (λ k. y k ≡ x k) ks → y j ≤ x j
        first-most y fe = greatest x y js (dominates set cap floor lo hi sets js target named (dispatched set cap floor lo hi sets js target) x ours y fe)

        -- and ours are such powers
        pub ours-feasible : Feasible set cap floor lo hi sets js target x
        ours-feasible = record {
          above = each (λ j. floor j ≤ x j) js (λ ks j ls e. omega (arith, fill ks j ls e));
          below = all-zip (λ j f l. omega (arith, f, l)) js fits (each (λ j. x j ≤ floor j + (cap j - floor j)) js (λ ks j ls e. omega (arith, fill ks j ls e)));
          least = all-zip (λ i t w. omega (arith, t, w.0)) sets (set-total set cap floor lo hi sets js target named (dispatched set cap floor lo hi sets js target) x ours) within;
          most = all-zip (λ i t w. omega (arith, t, w.1)) sets (set-total set cap floor lo hi sets js target named (dispatched set cap floor lo hi sets js target) x ours) within;
          total = our-total set cap floor lo hi sets js target named (dispatched set cap floor lo hi sets js target) x ours;
        }

  -- where there are such powers the target lies between the sums of the bounds
  pub needed : (y : A → ℕ) → All (λ j. Named sets (set j)) js → Feasible set cap floor lo hi sets js target y
      → (sumℕ lo sets ≤ target) × (target ≤ sumℕ hi sets) × All (λ i. lo i ≤ hi i) sets
  needed y named fe = (
    omega (arith, sumℕ-mono lo (λ i. of set y i js) sets fe.least, of-all set y sets js named, fe.total),
    omega (arith, sumℕ-mono (λ i. of set y i js) hi sets fe.most, of-all set y sets js named, fe.total),
    all-zip (λ i l m. omega (arith, l, m)) sets fe.least fe.most,
  )

-- set, cap and floor of four offers in the order of merit, and the bounds of sets 1 and 2
abbrev two : ℕ → List ℕ
two target = let f : List ℕ → ℕ → ℕ = λ l i. get_or l i 0 in
    map (dispatched (f (1 ∷ 2 ∷ 2 ∷ 1 ∷ [])) (f (50 ∷ 60 ∷ 40 ∷ 50 ∷ [])) (f (0 ∷ 10 ∷ 0 ∷ 5 ∷ [])) (f (0 ∷ 20 ∷ 30 ∷ []))
    (f (0 ∷ 90 ∷ 80 ∷ [])) (1 ∷ 2 ∷ []) (0 ∷ 1 ∷ 2 ∷ 3 ∷ []) target) (1 ∷ 2 ∷ [])

-- two sets of two blocks each, set 1 from 20 to 90 and set 2 from 30 to 80: their powers for some targets, as found by trying all powers
ex-dispatched : (two 50 ≡ 20 ∷ 30 ∷ []) × (two 70 ≡ 40 ∷ 30 ∷ []) × (two 100 ≡ 55 ∷ 45 ∷ [])
    × (two 130 ≡ 55 ∷ 75 ∷ []) × (two 135 ≡ 55 ∷ 80 ∷ []) × (two 170 ≡ 90 ∷ 80 ∷ [])
unfolding answer of
ex-dispatched = (refl, refl, refl, refl, refl, refl)
