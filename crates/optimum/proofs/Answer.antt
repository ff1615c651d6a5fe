-- The dispatch: from their least powers the sets are raised, offer by offer in the order of merit, each within its bounds, until the target is met.
use Rattle.std.specs.Prelude.{◌≡◌, ◌⊎◌, Bool, not, ℕ, ◌+◌, ◌-◌, ◌≤◌, ◌<◌}
use Rattle.std.proofs.Math.Path.{refl, ap, subst}
use Rattle.std.proofs.Common.{sym, ◌∙◌, eqb→eq}
use Rattle.std.proofs.Math.Logic.{inl, inr}
use Rattle.std.proofs.Math.Bool.{true, false}
use mathlib.Core.List.{List, [], ◌∷◌, ◌++◌, cons-ne-nil, head-eq_of_cons-eq, tail-eq_of_cons-eq}
use native.Mathlib.Omega.{arith}
use Rattle.std.proofs.Math.Dec.{T, eqb, leb, leb→le, nleb→lt, eqb_refl}
use Rattle.numbers.specs.Sum.{sumℕ-add, sumℕ-cong, gate, gate-yes, All, all}
use Rattle.optimum.specs.Levels.{Named, level}
use Rattle.optimum.specs.Answer.{Says, answer, pick, power, rise, total, up, ups}

module _ {A : Type 0} (set cap floor : A → ℕ) (lo hi : ℕ → ℕ) (sets : List ℕ) where
  -- ---- one offer more
  gate-mono : (b : Bool) (m n : ℕ) → m ≤ n → gate b m ≤ gate b n
  gate-mono true m n h = h
  gate-mono false m n h = omega arith

  pub power-up : (w : ℕ → ℕ) (j : A) (i : ℕ) → (power set cap floor lo hi sets) w i ≤ (power set cap floor lo hi sets) ((up set cap floor lo hi sets) w j) i
  power-up w j i = omega arith

  above : (a b : ℕ) → a ≤ b → b ≡ a + (b - a)
  above a b h = omega arith

  pub power-is : (w : ℕ → ℕ) (j : A) (i : ℕ) → (power set cap floor lo hi sets) ((up set cap floor lo hi sets) w j) i ≡ (power set cap floor lo hi sets) w i + gate (eqb (set j) i) ((rise set cap floor lo hi sets) w j)
  unfolding rise
  power-is w j i = go (eqb (set j) i) refl
    where
      go : (b : Bool) → eqb (set j) i ≡ b → level (lo i) (hi i) (w i + gate b (cap j - floor j)) ≡ (power set cap floor lo hi sets) w i + gate b ((power set cap floor lo hi sets) ((up set cap floor lo hi sets) w j) (set j) - (power set cap floor lo hi sets) w (set j))
      go true e =
          subst (λ (k : ℕ). level (lo k) (hi k) (w k + (cap j - floor j)) ≡ (power set cap floor lo hi sets) w k + ((power set cap floor lo hi sets) ((up set cap floor lo hi sets) w j) (set j) - (power set cap floor lo hi sets) w (set j))) (eqb→eq (set j) i (subst T (sym e) tt))
          (ap (λ (g : ℕ). level (lo (set j)) (hi (set j)) (w (set j) + g)) (sym (gate-yes (eqb (set j) (set j)) (cap j - floor j) (eqb_refl (set j))))
          ∙ above ((power set cap floor lo hi sets) w (set j)) ((power set cap floor lo hi sets) ((up set cap floor lo hi sets) w j) (set j)) (power-up w j (set j)))
      go false e = omega arith

  pub total-up : (w : ℕ → ℕ) (j : A) → Named sets (set j) → (total set cap floor lo hi sets) ((up set cap floor lo hi sets) w j) ≡ (total set cap floor lo hi sets) w + (rise set cap floor lo hi sets) w j
  total-up w j n = sumℕ-cong ((power set cap floor lo hi sets) ((up set cap floor lo hi sets) w j)) (λ i. (power set cap floor lo hi sets) w i + gate (eqb (set j) i) ((rise set cap floor lo hi sets) w j)) sets (all (power-is w j) sets)
      ∙ sumℕ-add ((power set cap floor lo hi sets) w) (λ i. gate (eqb (set j) i) ((rise set cap floor lo hi sets) w j)) sets ∙ ap (λ (r : ℕ). (total set cap floor lo hi sets) w + r) (n ((rise set cap floor lo hi sets) w j))

  power-ups : (js : List A) (w : ℕ → ℕ) (i : ℕ) → (power set cap floor lo hi sets) w i ≤ (power set cap floor lo hi sets) ((ups set cap floor lo hi sets) w js) i
  unfolding ups
  power-ups [] w i = omega arith
  power-ups (j ∷ js) w i = omega (arith, power-up w j i, power-ups js ((up set cap floor lo hi sets) w j) i)

  -- the powers that end at offer j: at or above those without it, at or below those with it
  stop-low : (w : ℕ → ℕ) (j : A) (target i : ℕ) → (power set cap floor lo hi sets) w i ≤ (power set cap floor lo hi sets) w i + gate (eqb (set j) i) (target - (total set cap floor lo hi sets) w)
  stop-low w j target i = omega arith

  stop-high : (w : ℕ → ℕ) (j : A) (target : ℕ) → Named sets (set j) → target ≤ (total set cap floor lo hi sets) ((up set cap floor lo hi sets) w j) → (i : ℕ) → (power set cap floor lo hi sets) w i + gate (eqb (set j) i) (target - (total set cap floor lo hi sets) w) ≤ (power set cap floor lo hi sets) ((up set cap floor lo hi sets) w j) i
  stop-high w j target n h i = omega (arith, power-is w j i, gate-mono (eqb (set j) i) (target - (total set cap floor lo hi sets) w) ((rise set cap floor lo hi sets) w j) (omega (arith, total-up w j n)))

  -- the powers against those of the heights v
  abbrev Even : (ℕ → ℕ) → (ℕ → ℕ) → Type 0
  Even v p = ((i : ℕ) → (power set cap floor lo hi sets) v i ≤ p i) ⊎ ((i : ℕ) → p i ≤ (power set cap floor lo hi sets) v i)

  even-none : (w p : ℕ → ℕ) → ((i : ℕ) → (power set cap floor lo hi sets) w i ≤ p i) → (ks ls : List A) → ks ++ ls ≡ [] → Even ((ups set cap floor lo hi sets) w ks) p
  unfolding ups
  even-none w p h [] ls e = inl h
  even-none w p h (k ∷ ks) ls e = absurd (cons-ne-nil _ _ e)

  even-cons : (w p : ℕ → ℕ) (j : A) (js : List A) → ((i : ℕ) → (power set cap floor lo hi sets) w i ≤ p i) → ((ks ls : List A) → ks ++ ls ≡ js → Even ((ups set cap floor lo hi sets) ((up set cap floor lo hi sets) w j) ks) p)
      → (ks ls : List A) → ks ++ ls ≡ j ∷ js → Even ((ups set cap floor lo hi sets) w ks) p
  unfolding ups
  even-cons w p j js h r [] ls e = inl h
  even-cons w p j js h r (k ∷ ks) ls e = subst (λ (m : A). Even ((ups set cap floor lo hi sets) ((up set cap floor lo hi sets) w m) ks) p) (sym (head-eq_of_cons-eq e)) (r ks ls (tail-eq_of_cons-eq e))

  pub says : (js : List A) (w : ℕ → ℕ) (target : ℕ) → All (λ j. Named sets (set j)) js → (total set cap floor lo hi sets) w ≤ target → target ≤ (total set cap floor lo hi sets) ((ups set cap floor lo hi sets) w js) → (Says set cap floor lo hi sets) w js target ((answer set cap floor lo hi sets) w js target)
  unfolding ups answer
  says [] w target n l h = record {
    low = λ i. omega arith;
    high = λ i. omega arith;
    sum = omega arith;
    even = even-none w ((power set cap floor lo hi sets) w) (λ i. omega arith);
  }
  says (j ∷ js) w target n l h = go (leb target ((total set cap floor lo hi sets) ((up set cap floor lo hi sets) w j))) refl (λ t. says js ((up set cap floor lo hi sets) w j) target n.1 t h)
    where
      go : (b : Bool) → leb target ((total set cap floor lo hi sets) ((up set cap floor lo hi sets) w j)) ≡ b → ((total set cap floor lo hi sets) ((up set cap floor lo hi sets) w j) ≤ target → (Says set cap floor lo hi sets) ((up set cap floor lo hi sets) w j) js target ((answer set cap floor lo hi sets) ((up set cap floor lo hi sets) w j) js target))
          → (Says set cap floor lo hi sets) w (j ∷ js) target (λ i. pick b ((power set cap floor lo hi sets) w i + gate (eqb (set j) i) (target - (total set cap floor lo hi sets) w)) ((answer set cap floor lo hi sets) ((up set cap floor lo hi sets) w j) js target i))
      go true e rec = let stop : target ≤ (total set cap floor lo hi sets) ((up set cap floor lo hi sets) w j) = leb→le target ((total set cap floor lo hi sets) ((up set cap floor lo hi sets) w j)) (subst T (sym e) tt) in record {
        low = stop-low w j target;
        high = λ i. omega (arith, stop-high w j target n.0 stop i, power-ups js ((up set cap floor lo hi sets) w j) i);
        sum = sumℕ-add ((power set cap floor lo hi sets) w) (λ i. gate (eqb (set j) i) (target - (total set cap floor lo hi sets) w)) sets ∙ ap (λ (r : ℕ). (total set cap floor lo hi sets) w + r) (n.0 (target - (total set cap floor lo hi sets) w)) ∙ omega arith;
        even = even-cons w (λ i. (power set cap floor lo hi sets) w i + gate (eqb (set j) i) (target - (total set cap floor lo hi sets) w)) j js (stop-low w j target)
            (λ ks ls s. inr (λ i. omega (arith, stop-high w j target n.0 stop i, power-ups ks ((up set cap floor lo hi sets) w j) i)));
      }
      go false e rec =
          let past : (total set cap floor lo hi sets) ((up set cap floor lo hi sets) w j) < target = nleb→lt target ((total set cap floor lo hi sets) ((up set cap floor lo hi sets) w j)) (subst (λ (b : Bool). T (not b)) (sym e) tt) in
          let on : (Says set cap floor lo hi sets) ((up set cap floor lo hi sets) w j) js target ((answer set cap floor lo hi sets) ((up set cap floor lo hi sets) w j) js target) = rec (omega arith) in record {
            low = λ i. omega (arith, power-up w j i, on.low i);
            high = on.high;
            sum = on.sum;
            even = even-cons w ((answer set cap floor lo hi sets) ((up set cap floor lo hi sets) w j) js target) j js (λ i. omega (arith, power-up w j i, on.low i)) on.even;
          }
