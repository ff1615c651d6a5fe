-- The run over arrays is the dispatch of `optimum`: set s stands at place s - 1, and every place is a set, named or not.
use Rattle.std.specs.Prelude.{◌≡◌, ◌⊎◌, Bool, not, ℤ, pos, length, set}
use Rattle.std.proofs.Math.Path.{refl, ap}
use Rattle.std.proofs.Common.{sym, ◌∙◌, subst, inl, inr, eq-eqb, ne_eqb, T_not, eqb→eq, get_or-set_same, get_or-set_other}
use Rattle.std.proofs.Math.Bool.{true, false}
use mathlib.Core.List.{List, [], ◌∷◌}
use Prim.Native.Nat.{ℕ, zero, suc, ◌+◌, ◌-◌, ◌≤◌, ◌<◌}
use native.Mathlib.Omega.{arith}
use Rattle.std.proofs.Math.Decide.{ℕ_discrete}
use Rattle.std.proofs.Math.Dec.{T, leb, eqb, eqb_refl}
use Rattle.std.proofs.Math.ListN.{length-set}
use Rattle.numbers.specs.Base.{range, up_to}
use Rattle.numbers.specs.Sum.{sumℕ, sumℕ-mono, gate, gate-yes, All, all, all-zip}
use Rattle.optimum.specs.Levels.{Named, level}
use Rattle.optimum.specs.Cheapest.{Rising}
use Rattle.optimum.specs.Order.{Asc}
use Rattle.numbers.specs.Laws as L
use Rattle.numbers.specs.Fill.{Apart}
use Rattle.optimum.specs.Answer.{pick, up, answer, rise}
use Rattle.optimum.proofs.Answer.{total-up, power-up}
use Rattle.offers.specs.declared.Offer.{Offer}
use Rattle.offers.specs.Merit as M
use Rattle.offers.specs.Order.{InOrder, merit-prices, offer-order}
use Rattle.raising.specs.declared.Rise.{Rise}
use Rattle.raising.specs.Raising.{place, height_of, power_of, step_of, stop_of, run, Sane}
use Rattle.raising.specs.Link.{Answer, Level, Power, Total, at, cap, floor}

-- ---- every place below 64 is named once
none-range : (n k s v : ℕ) → s < k → sumℕ (λ i. gate (eqb s i) v) (range k n) ≡ 0
unfolding range
none-range zero k s v h = refl
none-range (suc n) k s v h = rw (ne_eqb s k (λ e. absurd (omega arith))) (omega (arith, none-range n (suc k) s v (omega arith)))

one-range : (n k s v : ℕ) → k ≤ s → s < k + n → sumℕ (λ i. gate (eqb s i) v) (range k n) ≡ v
unfolding range
one-range zero k s v h l = absurd (omega arith)
one-range (suc n) k s v h l = go (ℕ_discrete s k) (λ m. one-range n (suc k) s v m (omega arith))
  where
    go : Dec (s ≡ k) → (suc k ≤ s → sumℕ (λ i. gate (eqb s i) v) (range (suc k) n) ≡ v) → gate (eqb s k) v + sumℕ (λ i. gate (eqb s i) v) (range (suc k) n) ≡ v
    go (yes e) r = rw (eq-eqb s k e) (omega (arith, none-range n (suc k) s v (omega arith)))
    go (no d) r = rw (ne_eqb s k d) (omega (arith, r (omega (arith, d))))

pub named : (s : ℕ) → s < 64 → Named (up_to 64) s
named s h v = one-range 64 0 s v (omega arith) (omega arith)

at_set : (l : List ℕ) (s v i : ℕ) → s < length l → at (set l s v) i ≡ M.pick (eqb s i) v (at l i)
at_set l s v i h = go (ℕ_discrete s i)
  where
    go : Dec (s ≡ i) → at (set l s v) i ≡ M.pick (eqb s i) v (at l i)
    go (yes e) = rw (eq-eqb s i e) (subst (λ (j : ℕ). at (set l s v) j ≡ v) e (get_or-set_same l s v 0 h))
    go (no d) = rw (ne_eqb s i d) (get_or-set_other l s i v 0 (λ e. d (sym e)))

module _ (lo hi : List ℕ) where
  -- the words of `optimum`, at these arrays
  abbrev Up : (ℕ → ℕ) → Offer → ℕ → ℕ
  Up = up place cap floor (at lo) (at hi) (up_to 64)

  -- a power is a part of the sum
  part : (w : ℕ → ℕ) (s : ℕ) → s < 64 → (Power lo hi) w s ≤ (Total lo hi) w
  part w s h = omega (arith, named s h ((Power lo hi) w s), sumℕ-mono (λ i. gate (eqb s i) ((Power lo hi) w s)) ((Power lo hi) w) (up_to 64) (all one (up_to 64)))
    where
      go : (i : ℕ) (b : Bool) → eqb s i ≡ b → gate b ((Power lo hi) w s) ≤ (Power lo hi) w i
      go i true e = subst (λ (j : ℕ). (Power lo hi) w s ≤ (Power lo hi) w j) (eqb→eq s i (subst T (sym e) tt)) (omega arith)
      go i false e = omega arith

      one : (i : ℕ) → gate (eqb s i) ((Power lo hi) w s) ≤ (Power lo hi) w i
      one i = go i (eqb s i) refl

  module _ (r : Rise) (o : Offer) (lev : Level lo hi r) (sane : Sane o) where
    abbrev w : ℕ → ℕ
    w = at r.heights

    abbrev s : ℕ
    s = place o

    in_place : s < 64
    in_place = omega (arith, sane.from_one, sane.to_last)

    height-is : (i : ℕ) → at (step_of r o lo hi).heights i ≡ Up w o i
    unfolding step_of
    height-is i = at_set r.heights s (height_of r o) i (omega (arith, in_place, lev.tall)) ∙ go (eqb s i) refl
      where
        go : (b : Bool) → eqb s i ≡ b → M.pick b (height_of r o) (w i) ≡ w i + gate b (o.cap - o.floor)
        go true e = ap (λ (j : ℕ). w j + (o.cap - o.floor)) (eqb→eq s i (subst T (sym e) tt))
        go false e = omega arith

    power-step : (i : ℕ) → at (step_of r o lo hi).powers i ≡ (Power lo hi) (Up w o) i
    unfolding step_of
    power-step i = at_set r.powers s (power_of r o lo hi) i (omega (arith, in_place, lev.long)) ∙ go (eqb s i) refl
      where
        go : (b : Bool) → eqb s i ≡ b → M.pick b (power_of r o lo hi) (at r.powers i) ≡ level (at lo i) (at hi i) (w i + gate b (o.cap - o.floor))
        go true e = ap (λ (j : ℕ). level (at lo j) (at hi j) (w j + (o.cap - o.floor))) (eqb→eq s i (subst T (sym e) tt))
        go false e = lev.powers i ∙ ap (level (at lo i) (at hi i)) (omega arith)

    new-power : power_of r o lo hi ≡ (Power lo hi) (Up w o) s
    new-power = ap (λ (g : ℕ). level (at lo s) (at hi s) (w s + g)) (sym (gate-yes (eqb s s) (o.cap - o.floor) (eqb_refl s)))

    total-step : (step_of r o lo hi).total ≡ (Total lo hi) (Up w o)
    unfolding step_of rise
    total-step = rest r.total (at r.powers s) (power_of r o lo hi) ((Total lo hi) w) ((Power lo hi) w s) ((Power lo hi) (Up w o) s) ((Total lo hi) (Up w o)) lev.total (lev.powers s) new-power (part w s in_place)
        (power-up place cap floor (at lo) (at hi) (up_to 64) w o s)
        (total-up place cap floor (at lo) (at hi) (up_to 64) w o (named s in_place))
      where
        rest : (t p n tw pw pu tu : ℕ) → t ≡ tw → p ≡ pw → n ≡ pu → pw ≤ tw → pw ≤ pu → tu ≡ tw + (pu - pw) → t - p + n ≡ tu
        rest t p n tw pw pu tu a b c d e f = omega arith

    heights-are : at (step_of r o lo hi).heights ≡ Up w o
    heights-are = λ i x. height-is x i

    tall-next : length (step_of r o lo hi).heights ≡ 64
    unfolding step_of
    tall-next = length-set r.heights s (height_of r o) ∙ lev.tall

    long-next : length (step_of r o lo hi).powers ≡ 64
    unfolding step_of
    long-next = length-set r.powers s (power_of r o lo hi) ∙ lev.long

    level-next : (Level lo hi) (step_of r o lo hi)
    level-next = record {
      tall = tall-next;
      long = long-next;
      powers = λ i. power-step i ∙ ap (λ (v : ℕ → ℕ). (Power lo hi) v i) (sym heights-are);
      total = total-step ∙ ap (Total lo hi) (sym heights-are);
    }

    stop_is : (target i : ℕ) → at (stop_of r o target) i ≡ (Power lo hi) w i + gate (eqb s i) (target - (Total lo hi) w)
    unfolding stop_of
    stop_is target i = at_set r.powers s (at r.powers s + (target - r.total)) i (omega (arith, in_place, lev.long)) ∙ go (eqb s i) refl
      where
        go : (b : Bool) → eqb s i ≡ b → M.pick b (at r.powers s + (target - r.total)) (at r.powers i) ≡ (Power lo hi) w i + gate b (target - (Total lo hi) w)
        go true e = ap (λ (j : ℕ). at r.powers j + (target - r.total)) (eqb→eq s i (subst T (sym e) tt)) ∙ (λ k. lev.powers i k + (target - lev.total k))
        go false e = lev.powers i ∙ omega arith

  -- the run is the dispatch
  pub run_is : (os : List Offer) (r : Rise) (target : ℕ) → All Sane os → (Level lo hi) r → (i : ℕ) → at (run r os lo hi target) i ≡ (Answer lo hi) (at r.heights) os target i
  unfolding run answer
  run_is [] r target a lev i = lev.powers i
  run_is (o ∷ os) r target a lev i = go (leb target (step_of r o lo hi).total) (ap (leb target) (total-step r o lev a.0)) (run_is os (step_of r o lo hi) target a.1 (level-next r o lev a.0) i)
    where
      go : (b : Bool) → b ≡ leb target ((Total lo hi) (Up (at r.heights) o)) → at (run (step_of r o lo hi) os lo hi target) i ≡ (Answer lo hi) (at (step_of r o lo hi).heights) os target i
          → at (M.pick b (stop_of r o target) (run (step_of r o lo hi) os lo hi target)) i ≡ (Answer lo hi) (at r.heights) (o ∷ os) target i
      go b e rest = same b ∙ ap (λ (t : Bool). pick t ((Power lo hi) (at r.heights) i + gate (eqb (place o) i) (target - (Total lo hi) (at r.heights))) ((Answer lo hi) (Up (at r.heights) o) os target i)) e
        where
          same : (t : Bool) → at (M.pick t (stop_of r o target) (run (step_of r o lo hi) os lo hi target)) i
              ≡ pick t ((Power lo hi) (at r.heights) i + gate (eqb (place o) i) (target - (Total lo hi) (at r.heights))) ((Answer lo hi) (Up (at r.heights) o) os target i)
          same true = stop_is r o lev a.0 target i
          same false = rest ∙ ap (λ (v : ℕ → ℕ). (Answer lo hi) v os target i) (heights-are r o lev a.0)

-- ---- a list in the order of merit has prices that do not fall
rising-from : (x : Offer) (xs : List Offer) → All (λ y. T (not (M.ahead y x))) xs → InOrder xs → Rising (λ o. o.price) x.price xs
rising-from x [] h s = tt
rising-from x (y ∷ ys) h s = (merit-prices x y h.0, rising-from y ys s.0 s.1)

pub rising : (xs : List Offer) → InOrder xs → (q : ℤ) × Rising (λ o. o.price) q xs
rising [] s = (pos 0, tt)
rising (x ∷ xs) s = (x.price, (L.≤-refl x.price, rising-from x xs s.0 s.1))

-- and each offer goes ahead of those that follow, where the order tells them apart
pub ascending : (xs : List Offer) → InOrder xs → Apart M.ahead xs → Asc offer-order xs
ascending [] s a = tt
ascending (x ∷ xs) s a = (all-zip (λ y n t. ahead_of y n t) xs s.0 a.0, ascending xs s.1 a.1)
  where
    ahead_of : (y : Offer) → T (not (M.ahead y x)) → T (M.ahead y x) ⊎ T (M.ahead x y) → T (M.ahead x y)
    ahead_of y n (inl t) = absurd (T_not (M.ahead y x) n t)
    ahead_of y n (inr t) = t
