-- Sets that are named once: what is summed over them, and a figure of each.
use Rattle.std.specs.Prelude.{◌≡◌, Bool, ◌||◌, not, length, get_or}
use Rattle.std.proofs.Math.Path.{refl, sym, subst}
use Rattle.std.proofs.Common.{◌∙◌, ap, arith, eq-eqb, ne_eqb, eqb-true}
use Rattle.std.proofs.Math.Bool.{true, false}
use mathlib.Core.List.{List, [], ◌∷◌}
use Prim.Native.Nat.{ℕ, zero, suc, ◌+◌, ◌-◌, ◌≤◌, ◌<◌}
use Rattle.std.proofs.Math.Dec.{T, eqb}
use Rattle.numbers.specs.Sum.{sumℕ, sumℕ-cong, sumℕ-mono, sumℕ-add, gate, all}
use Rattle.numbers.specs.Every.{all-up_to, length-range, sum-even, gate-le}
use Rattle.numbers.specs.Tests.{and_l, and_r}
use Rattle.bits.specs.Pick.{pick}
use Rattle.model.specs.Editions.{most_devices}
use Rattle.raising.proofs.Link.{named}
use Rattle.dispatching.specs.Dispatch.{among, once, of_named, places}
use Rattle.dispatch_promise.specs.Named.{Counted, Found, absent, present}

not-false : (b : Bool) → T (not b) → b ≡ false
not-false true t = absurd t
not-false false t = refl

pub once-head : (s : ℕ) (ss : List ℕ) → T (once (s ∷ ss)) → among s ss ≡ false
unfolding once
once-head s ss h = not-false (among s ss) (and_l (not (among s ss)) (once ss) h)

pub once-tail : (s : ℕ) (ss : List ℕ) → T (once (s ∷ ss)) → T (once ss)
unfolding once
once-tail s ss h = and_r (not (among s ss)) (once ss) h

sum-none : {A : Type 0} (ks : List A) → sumℕ (λ k. 0) ks ≡ 0
sum-none [] = refl
sum-none (k ∷ ks) = omega (arith, sum-none ks)

-- ---- sums

-- one place is the set's own, or it is among the others
one_place : (p : ℕ → ℕ) (s : ℕ) (ss : List ℕ) → 1 ≤ s → among s ss ≡ false → (i : ℕ)
    → gate (among (suc i) (s ∷ ss)) (p i) ≡ gate (eqb (s - 1) i) (p (s - 1)) + gate (among (suc i) ss) (p i)
unfolding among
one_place p s ss h out i = go (eqb (suc i) s) refl
  where
    go : (b : Bool) → eqb (suc i) s ≡ b → gate (b || among (suc i) ss) (p i) ≡ gate (eqb (s - 1) i) (p (s - 1)) + gate (among (suc i) ss) (p i)
    go true e =
        let same : suc i ≡ s = eqb-true (suc i) s e in
        let here : s - 1 ≡ i = omega arith in
        rw (eq-eqb (s - 1) i here, here, subst (λ (k : ℕ). among k ss ≡ false) (sym same) out) (omega arith)
    go false e = rw (ne_eqb (s - 1) i (λ d. let n : suc i ≡ s = omega arith in absurd (let f : true ≡ false = sym (eq-eqb (suc i) s n) ∙ e in subst (λ (b : Bool). T b) f tt))) (omega arith)

-- over all places, with 0 where none is named, it is the sum over the sets
pub sum-among : (p : ℕ → ℕ) (sets : List ℕ) → T (once sets) → Counted sets → sumℕ (λ i. gate (among (suc i) sets) (p i)) places ≡ sumℕ (λ s. p (s - 1)) sets
unfolding among
sum-among p [] h c = sum-none places
sum-among p (s ∷ ss) h c =
    sumℕ-cong (λ i. gate (among (suc i) (s ∷ ss)) (p i)) (λ i. gate (eqb (s - 1) i) (p (s - 1)) + gate (among (suc i) ss) (p i)) places (all (one_place p s ss c.0.0 (once-head s ss h)) places)
    ∙ sumℕ-add (λ i. gate (eqb (s - 1) i) (p (s - 1))) (λ i. gate (among (suc i) ss) (p i)) places
    ∙ (λ k. named (s - 1) (omega (arith, c.0.0, c.0.1)) (p (s - 1)) k + sum-among p ss (once-tail s ss h) c.1 k)

pub sum-named : (p : ℕ → ℕ) (sets : List ℕ) → T (once sets) → Counted sets → ((i : ℕ) → i < most_devices → among (suc i) sets ≡ false → p i ≡ 0) → sumℕ p places ≡ sumℕ (λ s. p (s - 1)) sets
sum-named p sets h c none = sumℕ-cong p (λ i. gate (among (suc i) sets) (p i)) places (all-up_to (λ i. p i ≡ gate (among (suc i) sets)
    (p i)) most_devices (λ i l. go i l (among (suc i) sets) refl)) ∙ sum-among p sets h c
  where
    go : (i : ℕ) → i < most_devices → (b : Bool) → among (suc i) sets ≡ b → p i ≡ gate b (p i)
    go i l true e = refl
    go i l false e = none i l e

-- no more sets are named than there are
pub once-few : (sets : List ℕ) → T (once sets) → Counted sets → length sets ≤ most_devices
once-few sets h c = omega (
  arith,
  sum-among (λ i. 1) sets h c,
  sum-even (λ s. 1) 1 sets (all (λ s. refl) sets),
  sumℕ-mono (λ i. gate (among (suc i) sets) 1) (λ i. 1) places (all (λ i. gate-le (among (suc i) sets) 1 1 (omega arith)) places),
  sum-even (λ i. 1) 1 places (all (λ i. refl) places),
  length-range 0 most_devices,
)

pub found : (sets : List ℕ) (i : ℕ) → Found sets i
unfolding among
found [] i = absent refl
found (s ∷ ss) i = go (eqb (suc i) s) refl (found ss i)
  where
    go : (b : Bool) → eqb (suc i) s ≡ b → Found ss i → Found (s ∷ ss) i
    go true e r = present 0 (omega arith) (sym (eqb-true (suc i) s e)) (ap (λ (t : Bool). t || among (suc i) ss) e)
    go false e (absent out) = absent (λ k. e k || out k)
    go false e (present j l at here) = present (suc j) (omega arith) at (λ k. e k || here k)

-- a set that is not among others is at none of their places
pub not-later : (rs : List ℕ) (k : ℕ) → k < length rs → (r : ℕ) → among r rs ≡ false → get_or rs k 0 ≡ r → ⊥
unfolding among
not-later [] k l r o e = omega arith
not-later (x ∷ rs) zero l r o e = let g : eqb r x ≡ true = eq-eqb r x (sym e) in subst (λ (b : Bool). T b) (ap (λ (t : Bool). t || among r rs) (sym g) ∙ o) tt
not-later (x ∷ rs) (suc k) l r o e = not-later rs k (omega arith) r (after (eqb r x) o) e
  where
    after : (b : Bool) → (b || among r rs) ≡ false → among r rs ≡ false
    after true t = absurd (subst (λ (b : Bool). T b) t tt)
    after false t = t

module _ (f : ℕ → ℕ → ℕ) where
  pub of-absent : (sets ps : List ℕ) (i : ℕ) → Counted sets → among (suc i) sets ≡ false → of_named f sets ps i ≡ 0
  unfolding among of_named
  of-absent [] ps i c out = refl
  of-absent (s ∷ ss) [] i c out = refl
  of-absent (s ∷ ss) (p ∷ ps) i c out = go (eqb (suc i) s) refl out (λ o. of-absent ss ps i c.1 o)
    where
      go : (b : Bool) → eqb (suc i) s ≡ b → (b || among (suc i) ss) ≡ false → (among (suc i) ss ≡ false → of_named f ss ps i ≡ 0) → pick (eqb (s - 1) i) (f i p) (of_named f ss ps i) ≡ 0
      go true e o r = absurd (subst (λ (b : Bool). T b) o tt)
      go false e o r = rw (ne_eqb (s - 1) i (λ d. let n : suc i ≡ s = omega (arith, c.0.0) in absurd (let g : true ≡ false = sym (eq-eqb (suc i) s n) ∙ e in subst (λ (b : Bool). T b) g tt)))
          (r o)

  pub of-present : (sets ps : List ℕ) (i j : ℕ) → T (once sets) → Counted sets → length ps ≡ length sets → j < length sets → get_or sets j 0 ≡ suc i → of_named f sets ps i ≡ f i (get_or ps j 0)
  unfolding of_named
  of-present [] ps i j h c n l at = absurd (omega arith)
  of-present (s ∷ ss) [] i j h c n l at = absurd (omega arith)
  of-present (s ∷ ss) (p ∷ ps) i zero h c n l at = rw (eq-eqb (s - 1) i (omega arith)) refl
  of-present (s ∷ ss) (p ∷ ps) i (suc j) h c n l at =
      rw (ne_eqb (s - 1) i (λ d. other d)) (of-present ss ps i j (once-tail s ss h) c.1 (omega arith) (omega arith) at)
    where
      other : s - 1 ≡ i → ⊥
      other d = not-later ss j (omega arith) s (once-head s ss h) (omega (arith, c.0.0))
