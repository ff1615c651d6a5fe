-- What is promised of a dispatch, on a case's bytes: 8 exactly where something does not fit the case, then 9 exactly where no such powers exist, and nothing touched on
-- any refusal; else powers in the order named that are such powers, cost least and have the most in the first offers, and the list in merit order.
use Rattle.std.specs.Prelude.{◌≡◌, Bool, false, ◌&&◌, ◌||◌, not, eqb, leb, ℤ, ◌≤ℤ◌}
use Rattle.std.proofs.Math.Path.{refl, sym, ap, subst}
use Rattle.std.proofs.Common.{◌∙◌, arith, eqb-true, le→leb}
use Rattle.std.proofs.Math.Bool.{true}
use mathlib.Core.List.{List, [], ◌∷◌, map}
use Prim.Native.Nat.{ℕ, zero, suc, ◌-◌, ◌≤◌, ◌<◌}
use Rattle.std.proofs.Math.Dec.{T, leb→le, eqb→eq, eqb_refl, not_T}
use Rattle.std.proofs.Math.ListN.{length, get_or, length-map}
use Rattle.std.proofs.Math.IntN.{pos}
use Rattle.numbers.specs.Base.{every}
use Rattle.numbers.specs.Sum.{all_map, all-zip}
use Rattle.numbers.specs.Every.{every_in, every-out}
use Rattle.numbers.specs.Tests.{and_in, and_l, and_r}
use Rattle.bits.specs.Pick.{pick}
use Rattle.model.specs.Case.{System, Case}
use Rattle.model.specs.Forced.{intervals, devices, consuming}
use Rattle.model.specs.Editions.{Largest, most_devices, most_intervals}
use Rattle.ranges.specs.Ranges.{SystemRange}
use Rattle.theorems.proofs.Promise.{stated-sound}
use Rattle.offers.specs.declared.Offer.{Offer}
use Rattle.offers.specs.Merit.{merit}
use Rattle.offers.specs.Same.{same_offers, same-offers, offers-same}
use Rattle.offers.specs.Order.{merit-order, merit-perm, same-merit}
use Rattle.dispatching.specs.declared.Dispatch.TheVariants.{Dispatched, Unfit, Unmet}
use Rattle.dispatching.specs.Dispatch.{offers_of, counted, among, once, producing, sets_fit, offers_fit, can_meet, power_of, powers_of, Outcome, untouched, dispatch_in, dispatch}
use Rattle.dispatch_promise.proofs.Named.{once-head, once-tail, not-later}
use Rattle.dispatch_promise.proofs.Own.{exactly}
use Rattle.dispatch_promise.specs.Such.{Such, cost_of}
use Rattle.dispatch_promise.specs.Best as B
use Rattle.dispatch_promise.proofs.Best as BP
use Rattle.dispatch_promise.specs.Best.{Asked}
use Rattle.dispatch_promise.specs.Promise.{Best, DispatchPromise, Dispatches, Fits, t}

-- ---- the tests decide what fits
in_list : (s : ℕ) (ss : List ℕ) → among s ss ≡ true → (k : ℕ) × (k < length ss) × (get_or ss k 0 ≡ s)
unfolding among
in_list s [] e = absurd (subst (λ (b : Bool). T b) (sym e) tt)
in_list s (r ∷ rs) e = go (eqb s r) refl e (in_list s rs)
  where
    go : (b : Bool) → eqb s r ≡ b → (b || among s rs) ≡ true → (among s rs ≡ true → (k : ℕ) × (k < length rs) × (get_or rs k 0 ≡ s)) → (k : ℕ) × (k < length (r ∷ rs)) × (get_or (r ∷ rs) k 0 ≡ s)
    go true d f rec = (0, omega arith, sym (eqb-true s r d))
    go false d f rec = let w = rec f in (suc w.0, omega (arith, w.1), w.2)

abbrev Apart : List ℕ → Type 0
Apart sets = (j k : ℕ) → j < k → k < length sets → get_or sets j 0 ≡ get_or sets k 0 → ⊥

once-in : (sets : List ℕ) → Apart sets → T (once sets)
unfolding once
once-in [] h = tt
once-in (s ∷ ss) h = and_in (not (among s ss)) (once ss) (not_T (among s ss) (λ u. there (in_list s ss (is_true (among s ss) u)))) (once-in ss (λ j k l m e. h (suc j) (suc k) (omega arith)
    (omega arith) e))
  where
    is_true : (b : Bool) → T b → b ≡ true
    is_true true u = refl
    is_true false u = absurd u

    there : (k : ℕ) × (k < length ss) × (get_or ss k 0 ≡ s) → ⊥
    there w = h 0 (suc w.0) (omega arith) (omega (arith, w.1)) (sym w.2)

once-out : (sets : List ℕ) → T (once sets) → Apart sets
once-out [] h j k l m e = omega arith
once-out (s ∷ ss) h zero zero l m e = omega arith
once-out (s ∷ ss) h zero (suc k) l m e = not-later ss k (omega arith) s (once-head s ss h) (sym e)
once-out (s ∷ ss) h (suc j) zero l m e = omega arith
once-out (s ∷ ss) h (suc j) (suc k) l m e = once-out ss (once-tail s ss h) j k (omega arith) (omega arith) e

module _ (c : Case) (interval : ℕ) (sets earlier : List ℕ) (offers : List Offer) where
  abbrev q : System
  q = c.system

  abbrev fitting : Bool
  fitting = sets_fit q interval sets (length earlier) && offers_fit c (t c interval sets earlier offers) sets offers

  is_false : (b : Bool) → T (not b) → b ≡ false
  is_false true u = absurd u
  is_false false u = refl

  no_test : (b : Bool) → b ≡ false → T (not b)
  no_test true e = subst (λ (x : Bool). T x) e tt
  no_test false e = tt

  pub fits_in : Fits c interval sets earlier offers → T fitting
  unfolding sets_fit offers_fit producing
  fits_in f = and_in (sets_fit q interval sets (length earlier)) (offers_fit c (t c interval sets earlier offers) sets offers)
      (and_in (counted (intervals q) interval && every (producing q) sets && once sets) (eqb (length earlier) (length sets))
      (and_in (counted (intervals q) interval && every (producing q) sets) (once sets)
      (and_in (counted (intervals q) interval) (every (producing q) sets)
      (and_in (leb 1 interval) (leb interval (intervals q)) (le→leb 1 interval f.from_one) (le→leb interval (intervals q) f.to_last))
      (every_in (producing q) sets (all-zip (λ s k p. and_in (counted (devices q) s) (not (consuming q (s - 1)))
      (and_in (leb 1 s) (leb s (devices q)) (le→leb 1 s k.0) (le→leb s (devices q) k.1)) (no_test (consuming q (s - 1)) p)) sets f.known f.produces)))
      (once-in sets f.apart))
      (subst (λ (n : ℕ). T (eqb (length earlier) n)) f.many (eqb_refl (length earlier))))
      (subst (λ (m : List Offer). T (same_offers (merit offers) m)) (exactly c (t c interval sets earlier offers) sets offers f.blocks) (subst (λ (b : Bool). T b) (sym (offers-same (merit offers))) tt))

  pub fits_out : T fitting → Fits c interval sets earlier offers
  unfolding sets_fit offers_fit producing
  fits_out u =
      let s = and_l (sets_fit q interval sets (length earlier)) (offers_fit c (t c interval sets earlier offers) sets offers) u in
      let o = and_r (sets_fit q interval sets (length earlier)) (offers_fit c (t c interval sets earlier offers) sets offers) u in
      let a = and_l (counted (intervals q) interval && every (producing q) sets && once sets) (eqb (length earlier) (length sets)) s in
      let b = and_l (counted (intervals q) interval && every (producing q) sets) (once sets) a in
      let n = and_l (counted (intervals q) interval) (every (producing q) sets) b in
      let e = every-out (producing q) sets (and_r (counted (intervals q) interval) (every (producing q) sets) b) in record {
        from_one = leb→le 1 interval (and_l (leb 1 interval) (leb interval (intervals q)) n);
        to_last = leb→le interval (intervals q) (and_r (leb 1 interval) (leb interval (intervals q)) n);
        known = all_map (λ s k. let w = and_l (counted (devices q) s) (not (consuming q (s - 1))) k in
            (leb→le 1 s (and_l (leb 1 s) (leb s (devices q)) w), leb→le s (devices q) (and_r (leb 1 s) (leb s (devices q)) w))) sets e;
        produces = all_map (λ s k. is_false (consuming q (s - 1)) (and_r (counted (devices q) s) (not (consuming q (s - 1))) k)) sets e;
        apart = once-out sets (and_r (counted (intervals q) interval && every (producing q) sets) (once sets) a);
        many = eqb→eq (length earlier) (length sets) (and_r (counted (intervals q) interval && every (producing q) sets && once sets) (eqb (length earlier) (length sets)) s);
        blocks = same-merit offers (offers_of c (t c interval sets earlier offers) sets) (same-offers (merit offers) (merit (offers_of c (t c interval sets earlier offers) sets)) o);
      }

  -- ---- and whether there are such powers
  module _ (range : SystemRange q) (target : ℕ) where
    abbrev out : Outcome
    out = dispatch_in c interval sets earlier offers target

    asked : Fits c interval sets earlier offers → Asked c (t c interval sets earlier offers) sets earlier
    asked f = record { range = range; there = omega (arith, f.from_one, f.to_last); single = once-in sets f.apart; known = f.known; many = f.many }

    best : (f : Fits c interval sets earlier offers) → T (can_meet c (t c interval sets earlier offers) sets earlier target) → Best c (t c interval sets earlier offers) sets earlier offers target (powers_of c (t c interval sets earlier offers) sets earlier target) (merit offers)
    unfolding powers_of
    best f m =
        let same : merit (offers_of c (t c interval sets earlier offers) sets) ≡ merit offers = sym (exactly c (t c interval sets earlier offers) sets offers f.blocks) in
        let h = asked f in record {
          power = λ i. pos (power_of c (t c interval sets earlier offers) sets earlier target i);
          block = B.ours c (t c interval sets earlier offers) sets earlier h target m;
          as_many = length-map sets (λ s. power_of c (t c interval sets earlier offers) sets earlier target (s - 1));
          written = λ j l. ap pos (map_at (λ s. power_of c (t c interval sets earlier offers) sets earlier target (s - 1)) sets j l);
          such = BP.ours-such c (t c interval sets earlier offers) sets earlier h target m;
          cheapest = λ p y s. subst (λ (l : List Offer). cost_of (B.ours c (t c interval sets earlier offers) sets earlier h target m) l ≤ℤ cost_of y l) same (BP.cheapest c (t c interval sets earlier offers) sets earlier h target m p y s);
          first-most = λ p y s ks o ls e. BP.first-most c (t c interval sets earlier offers) sets earlier h target m p y s ks o ls (e ∙ sym same);
          in-order = merit-order offers;
          rearranged = merit-perm offers;
        }
      where
        map_at : (f : ℕ → ℕ) (l : List ℕ) (j : ℕ) → j < length l → get_or (map f l) j 0 ≡ f (get_or l j 0)
        map_at f [] j h = absurd (omega arith)
        map_at f (x ∷ l) zero h = refl
        map_at f (x ∷ l) (suc j) h = map_at f l j (omega arith)

    -- the three answers
    abbrev outcome : Bool → Bool → Outcome
    outcome a b = pick a (pick b (record { answer = Dispatched; powers = powers_of c (t c interval sets earlier offers) sets earlier target; offers = merit offers }) (untouched (Unmet target) earlier offers))
        (untouched Unfit earlier offers)

    differ : (k : ℕ) → k ≡ suc k → ⊥
    differ k e = omega arith

    pub dispatches : Dispatches c interval sets earlier offers target out
    unfolding dispatch_in
    dispatches = go fitting (can_meet c (t c interval sets earlier offers) sets earlier target) refl refl
      where
        yes-test : {b : Bool} → b ≡ true → T b
        yes-test e = subst (λ (x : Bool). T x) (sym e) tt

        no-fit : fitting ≡ false → Fits c interval sets earlier offers → ⊥
        no-fit e f = subst (λ (x : Bool). T x) e (fits_in f)

        go : (a b : Bool) → fitting ≡ a → can_meet c (t c interval sets earlier offers) sets earlier target ≡ b → Dispatches c interval sets earlier offers target (outcome a b)
        go false b e m = record {
          unfit = (λ z. no-fit e, λ n. refl);
          unmet = (λ z. absurd (let x : ◌≡◌ {A = ℕ} 0 1 = cc in omega arith), λ n. absurd (no-fit e n.0));
          met = λ f p y s. absurd (no-fit e f);
          dispatched = λ z. absurd (let x : ◌≡◌ {A = ℕ} 0 1 = cc in omega arith);
          kept = λ n. (refl, refl);
        }
        go true false e m =
            let f = fits_out (yes-test e) in
            let none : (p : ℕ → ℤ) (y : ℕ → ℕ → ℤ) → Such c (t c interval sets earlier offers) sets earlier target p y → ⊥ = λ p y s. subst (λ (x : Bool). T x) m (BP.can-meet c (t c interval sets earlier offers) sets earlier (asked f) target p y s) in record {
              unfit = (λ z. absurd (let x : ◌≡◌ {A = ℕ} 0 1 = cc in omega arith), λ n. absurd (n f));
              unmet = (λ z. (f, none), λ n. refl);
              met = λ g p y s. absurd (none p y s);
              dispatched = λ z. absurd (let x : ◌≡◌ {A = ℕ} 0 1 = cc in omega arith);
              kept = λ n. (refl, refl);
            }
        go true true e m =
            let f = fits_out (yes-test e) in record {
              unfit = (λ z. absurd (let x : ◌≡◌ {A = ℕ} 0 1 = cc in omega arith), λ n. absurd (n f));
              unmet = (
                λ z. absurd (let x : ◌≡◌ {A = ℕ} 0 1 = cc in omega arith),
                λ n. absurd (n.1 (λ i. pos (power_of c (t c interval sets earlier offers) sets earlier target i)) (B.ours c (t c interval sets earlier offers) sets earlier (asked f) target (yes-test m))
                    (BP.ours-such c (t c interval sets earlier offers) sets earlier (asked f) target (yes-test m))),
              );
              met = λ g p y s. refl;
              dispatched = λ z. (f, best f (yes-test m));
              kept = λ n. absurd (n refl);
            }

-- ---- on bytes
pub dispatch-promised : (l : Largest) → l.devices ≤ most_devices → l.intervals ≤ most_intervals → (cs : List ℕ) (interval : ℕ) (sets earlier : List ℕ) (offers : List Offer) (target : ℕ)
    → DispatchPromise l cs interval sets earlier offers target (dispatch l cs interval sets earlier offers target)
unfolding dispatch
dispatch-promised l most long cs interval sets earlier offers target = record {
  case-refused = λ f e. rw e refl;
  case-passed = λ x e. rw e (dispatches x.case interval sets earlier offers (stated-sound l most long cs x e).range.system target);
}
