-- A dispatch against a decoded case is that of `Dispatch`, for every list of offers of which the array holds the first.
use Rattle.std.specs.Prelude.{◌≡◌, Bool, ◌&&◌, not, leb, eqb, take, drop}
use Rattle.std.proofs.Math.Path.{refl, sym, ap}
use Rattle.std.proofs.Common.{◌∙◌, subst, mul-le-mul, take-append-drop, drop_of_length-le, take_all}
use Rattle.std.proofs.Math.Bool.{true, false}
use mathlib.Core.List.{List, ◌++◌, append-nil}
use Prim.Native.Nat.{ℕ, ◌+◌, ◌-◌, ◌*◌, ◌≤◌, ◌<◌, min}
use native.Mathlib.Omega.{arith}
use Rattle.std.proofs.Math.Dec.{T, leb→le, eqb→eq}
use Rattle.std.proofs.Math.ListN.{length}
use Rattle.numbers.specs.Base.{every}
use Rattle.numbers.specs.Sum.{All, all_map}
use Rattle.numbers.specs.Every.{every-out}
use Rattle.numbers.specs.Tests.{and_l, and_r}
use Rattle.bits.specs.Pick.{pick}
use Rattle.model.specs.Case.{System, Case}
use Rattle.model.specs.Forced.{intervals, consuming}
use Rattle.model.specs.Forced as F
use Rattle.model.specs.Editions.{most_devices}
use Rattle.offers.specs.declared.Offer.{Offer}
use Rattle.offers.specs.Merit.{room, merit, merit_head}
use Rattle.offers.specs.Same.{same_offers, same-offers}
use Rattle.offers.specs.Sorting.{merit-length}
use Rattle.row_places.specs.declared.Front.{Front}
use Rattle.records.specs.Views.{system_in, case_in, CaseRows}
use Rattle.records.specs.Viewed as W
use Rattle.decoded_cases.specs.Decoded.{Decoded}
use Rattle.dispatching.specs.declared.Dispatch.{Dispatch}
use Rattle.dispatching.specs.declared.Dispatch.TheVariants.{Dispatched, Refused, Unfit, Unmet}
use Rattle.dispatching.specs.Dispatch.{offers_of, counted, once, producing, sets_fit, offers_fit, can_meet, powers_of, Outcome, dispatch_in}
use Rattle.dispatch_promise.specs.Named.{Counted}
use Rattle.dispatch_promise.proofs.Named.{once-few}
use Rattle.dispatch_promise.proofs.Own.{own-long}
use Rattle.dispatch_promise.proofs.Best as B
use Rattle.dispatch_promise.specs.Best.{Asked}
use Rattle.set_limits.specs.Limits.{NamedIn}
use Rattle.lent_offers.specs.Lent.{Sorts, head-sorted}
use Rattle.settled_powers.specs.Settled.{Dispatchable, Settles}
use Rattle.dispatches.specs.declared.Held.{Held}

-- a decoded case, sets of it that are named once, an earlier power for each, and offers that an array holds
pub record Ready (front : Front) (halves : List ℕ) (zones minima devices cells : List (List ℕ)) (t : ℕ) (sets powers : List ℕ) (count : ℕ) : Type 0 where
  pub rows : CaseRows front halves zones minima devices cells
  pub there : t < length halves
  pub named : NamedIn (length devices) sets powers
  pub single : T (once sets)
  pub few-sets : length sets ≤ 64
  pub few : count ≤ room

-- the list put back is `after` over the first of the list that was lent
abbrev pub put_back : ℕ → List Offer → List Offer → List Offer
put_back n after os = take n after ++ drop n os

-- what a refusal and an answer leave
module _ (c : Case) (t : ℕ) (sets before : List ℕ) (os : List Offer) (target : ℕ) where
  unfoldable pub after_sets : Outcome
  after_sets =
      pick (offers_fit c t sets os)
      (pick (can_meet c t sets before target)
      (record { answer = Dispatched; powers = powers_of c t sets before target; offers = merit os })
      (record { answer = Unmet target; powers = before; offers = os }))
      (record { answer = Unfit; powers = before; offers = os })

-- of sets that fit, with so many offers as the array holds
pub record Given (front : Front) (halves : List ℕ) (zones minima devices cells : List (List ℕ)) (t : ℕ) (sets before after : List ℕ) (all : List Offer) (count target : ℕ) (r : Held) : Type 0 where
  pub answer : r.answer ≡ (after_sets (case_in front halves zones minima devices cells) t sets before (take count all) target).answer
  pub powers : after ≡ (after_sets (case_in front halves zones minima devices cells) t sets before (take count all) target).powers
  pub list : take count r.offers ≡ (after_sets (case_in front halves zones minima devices cells) t sets before (take count all) target).offers

-- for every list of so many offers whose first the array holds
pub record DispatchesCase (front : Front) (halves : List ℕ) (zones minima devices cells : List (List ℕ)) (interval : ℕ) (sets before after : List ℕ) (all : List Offer)
    (count target : ℕ) (r : Held) : Type 0 where
  pub is : (os : List Offer) → length os ≡ count → take (min count room) all ≡ take (min count room) os
      → ◌≡◌ {A = Outcome} (record { answer = r.answer; powers = after; offers = put_back (min count room) r.offers os })
      (dispatch_in (case_in front halves zones minima devices cells) interval sets before os target)

-- ---- sets that fit

module _ {front : Front} {halves : List ℕ} {zones minima devices cells : List (List ℕ)} {t : ℕ} {sets before : List ℕ} {all list : List Offer} {count : ℕ} {own : Bool}
    (h : Ready front halves zones minima devices cells t sets before count) (full : length all ≡ 256)
    (s : Sorts (case_in front halves zones minima devices cells) t sets all count own list) where
  abbrev c : Case
  c = case_in front halves zones minima devices cells

  fits-as : {b : Bool} → own ≡ b → offers_fit c t sets (take count all) ≡ b
  fits-as e = sym s.fits ∙ e

  in_list : take count list ≡ merit (take count all)
  in_list = ap (take count) s.sorted ∙ head-sorted count all (omega (arith, full, h.few))

  pub dispatchable : own ≡ true → Dispatchable front halves zones minima devices cells t sets before list count
  unfolding offers_fit
  dispatchable e = record {
    rows = h.rows;
    there = h.there;
    named = h.named;
    single = h.single;
    few = h.few;
    list = in_list ∙ same-offers (merit (take count all)) (merit (offers_of c t sets)) (subst (λ (b : Bool). T b) (sym (fits-as e)) tt);
  }

  module _ (target : ℕ) where
    abbrev met : Outcome
    met = record { answer = Dispatched; powers = powers_of c t sets before target; offers = merit (take count all) }

    abbrev unmet : Outcome
    unmet = record { answer = Unmet target; powers = before; offers = take count all }

    abbrev unfit : Outcome
    unfit = record { answer = Unfit; powers = before; offers = take count all }

    after_is : (a b : Bool) → offers_fit c t sets (take count all) ≡ a → can_meet c t sets before target ≡ b → after_sets c t sets before (take count all) target ≡ pick a (pick b met unmet) unfit
    unfolding after_sets
    after_is a b e f = λ k. pick (e k) (pick (f k) met unmet) unfit

    pub given-met : (after : List ℕ) (r : Bool) → own ≡ true → Settles front halves zones minima devices cells t sets before after target r → r ≡ true
        → Given front halves zones minima devices cells t sets before after all count target (record { answer = Dispatched; offers = list })
    given-met after r e g y =
        let m : can_meet c t sets before target ≡ true = sym g.met ∙ y in let o = after_is true true (fits-as e) m in record {
          answer = sym (ap (λ (x : Outcome). x.answer) o);
          powers = g.powers ∙ ap (λ (b : Bool). pick b (powers_of c t sets before target) before) m ∙ sym (ap (λ (x : Outcome). x.powers) o);
          list = in_list ∙ sym (ap (λ (x : Outcome). x.offers) o);
        }

    pub given-unmet : (after : List ℕ) (r : Bool) → own ≡ true → Settles front halves zones minima devices cells t sets before after target r → r ≡ false
        → Given front halves zones minima devices cells t sets before after all count target (record { answer = Unmet target; offers = all })
    given-unmet after r e g y =
        let m : can_meet c t sets before target ≡ false = sym g.met ∙ y in let o = after_is true false (fits-as e) m in record {
          answer = sym (ap (λ (x : Outcome). x.answer) o);
          powers = g.powers ∙ ap (λ (b : Bool). pick b (powers_of c t sets before target) before) m ∙ sym (ap (λ (x : Outcome). x.powers) o);
          list = sym (ap (λ (x : Outcome). x.offers) o);
        }

    pub given-unfit : own ≡ false → Given front halves zones minima devices cells t sets before before all count target (record { answer = Unfit; offers = all })
    given-unfit e =
        let o = after_is false (can_meet c t sets before target) (fits-as e) refl in record {
          answer = sym (ap (λ (x : Outcome). x.answer) o);
          powers = sym (ap (λ (x : Outcome). x.powers) o);
          list = sym (ap (λ (x : Outcome). x.offers) o);
        }

-- ---- a decoded case

module _ {front : Front} {halves : List ℕ} {zones minima devices cells : List (List ℕ)} (d : Decoded front halves zones minima devices cells) (interval : ℕ) (sets before : List ℕ) where
  abbrev k : Case
  k = case_in front halves zones minima devices cells

  abbrev q : System
  q = system_in halves zones minima devices cells

  abbrev fit : Bool
  fit = sets_fit q interval sets (length before)

  -- what the test says
  module _ (e : fit ≡ true) where
    tested : T fit
    tested = subst (λ (b : Bool). T b) (sym e) tt

    first_three : T (counted (intervals q) interval && every (producing q) sets && once sets)
    unfolding sets_fit
    first_three = and_l (counted (intervals q) interval && every (producing q) sets && once sets) (eqb (length before) (length sets)) tested

    first_two : T (counted (intervals q) interval && every (producing q) sets)
    first_two = and_l (counted (intervals q) interval && every (producing q) sets) (once sets) first_three

    as_many : length before ≡ length sets
    unfolding sets_fit
    as_many = eqb→eq (length before) (length sets) (and_r (counted (intervals q) interval && every (producing q) sets && once sets) (eqb (length before) (length sets)) tested)

    single : T (once sets)
    single = and_r (counted (intervals q) interval && every (producing q) sets) (once sets) first_three

    pub from_one : 1 ≤ interval
    from_one = leb→le 1 interval (and_l (leb 1 interval) (leb interval (intervals q)) (and_l (counted (intervals q) interval) (every (producing q) sets) first_two))

    to_last : interval ≤ length halves
    to_last = omega (
      arith,
      leb→le interval (intervals q) (and_r (leb 1 interval) (leb interval (intervals q)) (and_l (counted (intervals q) interval) (every (producing q) sets) first_two)),
      W.intervals-are halves zones minima devices cells,
    )

    known : All (λ s. (1 ≤ s) × (s ≤ length devices)) sets
    unfolding producing
    known = all_map (λ s u. let w = and_l (counted (F.devices q) s) (not (consuming q (s - 1))) u in
        (leb→le 1 s (and_l (leb 1 s) (leb s (F.devices q)) w), omega (arith, leb→le s (F.devices q) (and_r (leb 1 s) (leb s (F.devices q)) w), W.devices-are halves zones minima devices cells)))
        sets (every-out (producing q) sets (and_r (counted (intervals q) interval) (every (producing q) sets) first_two))

    in-most : Counted sets
    in-most = all_map (λ s u. (u.0, omega (arith, u.1, d.rows.few-devices))) sets known

    pub ready : (count : ℕ) → count ≤ room → Ready front halves zones minima devices cells (interval - 1) sets before count
    ready count few = record {
      rows = d.rows;
      there = omega (arith, from_one, to_last);
      named = record { few = d.rows.few-devices; known = known; many = as_many };
      single = single;
      few-sets = once-few sets single in-most;
      few = few;
    }

    -- no case has more offers than an array holds
    few-own : length (offers_of k (interval - 1) sets) ≤ room
    few-own =
        let h : Asked k (interval - 1) sets before = record {
          range = d.rows.range.system;
          there = omega (arith, from_one, to_last, W.intervals-are halves zones minima devices cells);
          single = single;
          known = all_map (λ s u. (u.0, omega (arith, u.1, W.devices-are halves zones minima devices cells))) sets known;
          many = as_many;
        } in
        omega (
          arith,
          own-long k (interval - 1) sets (all_map (λ s u. (B.cell-in k (interval - 1) sets before h (s - 1)
              (omega (arith, u.0, u.1, W.devices-are halves zones minima devices cells))).blocks) sets known),
          once-few sets single in-most,
        )

    too_many : (os : List Offer) → room < length os → offers_fit k (interval - 1) sets os ≡ false
    unfolding offers_fit
    too_many os l = never (same_offers (merit os) (merit (offers_of k (interval - 1) sets))) refl
      where
        never : (b : Bool) → same_offers (merit os) (merit (offers_of k (interval - 1) sets)) ≡ b → b ≡ false
        never false e = refl
        never true e =
            let same = same-offers (merit os) (merit (offers_of k (interval - 1) sets)) (subst (λ (x : Bool). T x) (sym e) tt) in
            absurd (omega (arith, ap (λ (l : List Offer). length l) same, merit-length os, merit-length (offers_of k (interval - 1) sets), few-own))

  -- ---- the endings
  module _ (all : List Offer) (count target : ℕ) where
    abbrev left : Dispatch → List Offer → Outcome
    left r os = record { answer = r; powers = before; offers = os }

    abbrev outcome : List Offer → Bool → Bool → Outcome
    outcome os a b = pick a (pick b (record { answer = Dispatched; powers = powers_of k (interval - 1) sets before target; offers = merit os }) (left (Unmet target) os)) (left Unfit os)

    -- a refusal puts back what was lent
    same-list : (os : List Offer) → take (min count room) all ≡ take (min count room) os → put_back (min count room) all os ≡ os
    same-list os e = ap (λ (l : List Offer). l ++ drop (min count room) os) e ∙ take-append-drop (min count room) os

    off : (os : List Offer) → (fit && offers_fit k (interval - 1) sets os) ≡ false → left Unfit os ≡ dispatch_in k interval sets before os target
    unfolding dispatch_in
    off os e = sym (λ x. outcome os (e x) (can_meet k (interval - 1) sets before target))

    pub case-unfit : fit ≡ false → DispatchesCase front halves zones minima devices cells interval sets before before all count target (record { answer = Unfit; offers = all })
    case-unfit e = record { is = λ os n g. ap (left Unfit) (same-list os g) ∙ off os (ap (λ (b : Bool). b && offers_fit k (interval - 1) sets os) e) }

    pub case-long : fit ≡ true → room < count → DispatchesCase front halves zones minima devices cells interval sets before before all count target (record { answer = Unfit; offers = all })
    case-long e l = record { is = λ os n g. ap (left Unfit) (same-list os g) ∙ off os (λ x. e x && too_many e os (omega (arith, n)) x) }

    abbrev given : List Offer → Outcome
    given os = after_sets k (interval - 1) sets before os target

    pub case-given : (after : List ℕ) (r : Held) → fit ≡ true → count ≤ room → Given front halves zones minima devices cells (interval - 1) sets before after all count target r
        → DispatchesCase front halves zones minima devices cells interval sets before after all count target r
    unfolding dispatch_in after_sets
    case-given after r e l g = record {
      is = λ os n f. go os n (sym (take_all count os (omega (arith, n))) ∙ sym (shorter os f))
          ∙ sym (λ x. outcome os (e x && offers_fit k (interval - 1) sets os) (can_meet k (interval - 1) sets before target));
    }
      where
        least : min count room ≡ count
        least = omega arith

        shorter : (os : List Offer) → take (min count room) all ≡ take (min count room) os → take count all ≡ take count os
        shorter os f = subst (λ (m : ℕ). take m all ≡ take m os) least f

        go : (os : List Offer) → length os ≡ count → os ≡ take count all
            → ◌≡◌ {A = Outcome} (record { answer = r.answer; powers = after; offers = put_back (min count room) r.offers os }) (given os)
        go os n f =
            let back : put_back (min count room) r.offers os ≡ (given os).offers =
            ap (λ (m : ℕ). put_back m r.offers os) least ∙ ap (λ (l : List Offer). take count r.offers ++ l) (drop_of_length-le os {i = count} (omega (arith, n)))
            ∙ append-nil (take count r.offers) ∙ g.list ∙ ap (λ (l : List Offer). (given l).offers) (sym f) in
            λ x. record { answer = (g.answer ∙ ap (λ (l : List Offer). (given l).answer) (sym f)) x; powers = (g.powers ∙ ap (λ (l : List Offer). (given l).powers) (sym f)) x; offers = back x }
