-- The arrays of bounds and powers are those of `Dispatch`.
use Rattle.std.specs.Prelude.{◌≡◌, refl, Bool, true, false, ◌&&◌, length, take}
use Rattle.std.proofs.Common.{sym, ◌∙◌, ap, arith, length-take-le, get_or-take}
use Rattle.std.proofs.Math.Path.{subst}
use mathlib.Core.List.{List, [], ◌∷◌, map}
use Prim.Native.Nat.{ℕ, ◌+◌, ◌-◌, ◌≤◌, ◌<◌}
use Rattle.std.proofs.Math.Dec.{T, leb}
use Rattle.std.proofs.Math.ListN.{get_or}
use Rattle.numbers.specs.Base.{every}
use Rattle.numbers.specs.Sum.{sumℕ, All, all_map}
use Rattle.numbers.specs.Every.{all-at}
use Rattle.bits.specs.Pick.{pick}
use Rattle.model.specs.Case.{System, Case}
use Rattle.model.specs.Editions.{most_devices}
use Rattle.offers.specs.declared.Offer.{Offer}
use Rattle.offers.specs.Merit.{merit, no-offer}
use Rattle.optimum.specs.Levels.{of}
use Rattle.optimum.specs.Theorem as O
use Rattle.raising.specs.Raising.{place, Sane}
use Rattle.raising.specs.Link.{at}
use Rattle.row_places.specs.declared.Front.{Front}
use Rattle.records.specs.Views.{system_in, case_in, CaseRows}
use Rattle.records.specs.Viewed as W
use Rattle.dispatching.specs.Dispatch.{offers_of, once, of_named, places, lowest_of, highest_of, can_meet, power_of, powers_of}
use Rattle.dispatch_promise.proofs.Best as B
use Rattle.dispatch_promise.specs.Best.{Asked}
use Rattle.set_limits.specs.Limits.{NamedIn, Limited}
use Rattle.place_totals.specs.Totals.{Small, total_of, ordered_by, meetable}
use Rattle.dispatch_arrays.specs.Arrays.{SaneTo, Named}
use Rattle.dispatch_powers.specs.Powers.{Startable, Dispatches}

-- a decoded case, sets of it that are named once with an earlier power each, and the case's own offers of them in the order of merit
pub record Dispatchable (front : Front) (halves : List ℕ) (zones minima devices cells : List (List ℕ)) (t : ℕ) (sets powers : List ℕ) (ours : List Offer) (n : ℕ) : Type 0 where
  pub rows : CaseRows front halves zones minima devices cells
  pub there : t < length halves
  pub named : NamedIn (length devices) sets powers
  pub single : T (once sets)
  pub few : n ≤ 256
  pub list : take n ours ≡ merit (offers_of (case_in front halves zones minima devices cells) t sets)

-- whether there are such powers, and the powers as they are left
pub record Settles (front : Front) (halves : List ℕ) (zones minima devices cells : List (List ℕ)) (t : ℕ) (sets before after : List ℕ) (target : ℕ) (r : Bool) : Type 0 where
  pub met : r ≡ can_meet (case_in front halves zones minima devices cells) t sets before target
  pub powers : after ≡ pick (can_meet (case_in front halves zones minima devices cells) t sets before target) (powers_of (case_in front halves zones minima devices cells) t sets before target) before

module _ {front : Front} {halves : List ℕ} {zones minima devices cells : List (List ℕ)} {t : ℕ} {sets earlier : List ℕ} {ours : List Offer} {n : ℕ}
    (full : length ours ≡ 256) (h : Dispatchable front halves zones minima devices cells t sets earlier ours n) where
  abbrev c : Case
  c = case_in front halves zones minima devices cells

  pub asked : Asked c t sets earlier
  asked = record {
    range = h.rows.range.system;
    there = omega (arith, h.there, W.intervals-are halves zones minima devices cells);
    single = h.single;
    known = all_map (λ s k. (k.0, omega (arith, k.1, W.devices-are halves zones minima devices cells))) sets h.named.known;
    many = h.named.many;
  }

  -- the offers of the array
  all-sane : All Sane (take n ours)
  all-sane = subst (λ (l : List Offer). All Sane l) (sym h.list) (B.sane c t sets earlier asked)

  sane-to : SaneTo n ours
  sane-to = record {
    few = h.few;
    sane = λ k l. subst Sane (get_or-take n ours k no-offer l) (all-at Sane no-offer (take n ours) all-sane k (omega (arith, length-take-le n ours (omega (arith, full, h.few)))));
  }

  module _ {lo hi : List ℕ} (lim : Limited (system_in halves zones minima devices cells) t sets earlier lo hi) (target : ℕ) where
    lows : at lo ≡ lowest_of c t sets earlier
    lows = λ k i. lim.low.each i k

    highs : at hi ≡ highest_of c t sets earlier
    highs = λ k i. lim.high.each i k

    pub small-high : Small hi
    small-high = record { each = λ i. omega (arith, lim.high.each i, B.high_small c t sets earlier asked i) }

    pub meets-is : meetable lo hi target ≡ can_meet c t sets earlier target
    unfolding meetable ordered_by total_of can_meet
    meets-is = λ k. every (λ i. leb (lows k i) (highs k i)) places && leb (sumℕ (lows k) places) target && leb target (sumℕ (highs k) places)

    pub startable : meetable lo hi target ≡ true → Startable ours n lo hi target
    unfolding total_of
    startable e =
        let m : T (can_meet c t sets earlier target) = subst (λ (b : Bool). T b) (sym (sym meets-is ∙ e)) tt in
        record {
          sane = sane-to;
          long = lim.low.long;
          low = record { each = λ i. omega (arith, lim.low.each i, B.ordered-all c t sets earlier asked target m i, B.high_small c t sets earlier asked i) };
          high = small-high;
          floors = λ i. subst (λ (l : List Offer). of place (λ o. o.floor) i l ≤ get_or lo i 0) (sym h.list) (omega (arith, lim.low.each i, B.floors-low c t sets earlier asked target m i));
          ordered = λ i. omega (arith, lim.low.each i, lim.high.each i, B.ordered-all c t sets earlier asked target m i);
          least = subst (λ (f : ℕ → ℕ). sumℕ f places ≤ target) (sym lows) (B.enough c t sets earlier asked target m).0;
        }

    pub named_in : Named sets earlier
    named_in = record { places = all_map (λ s k. (k.0, omega (arith, k.1, h.named.few))) sets h.named.known; many = h.named.many }

    pub powers-are : (r : List ℕ) → Dispatches ours n lo hi target r → map (λ s. get_or r (s - 1) 0) sets ≡ powers_of c t sets earlier target
    unfolding powers_of power_of
    powers-are r d = λ k. map (λ s. (d.each (s - 1) ∙ (λ j. O.dispatched place (λ o. o.cap) (λ o. o.floor) (lows j) (highs j) places (h.list j) target (s - 1))) k) sets

    -- the two endings
    pub settled_on : (after : List ℕ) → meetable lo hi target ≡ true → after ≡ powers_of c t sets earlier target → Settles front halves zones minima devices cells t sets earlier after target true
    settled_on after e p = let m : can_meet c t sets earlier target ≡ true = sym meets-is ∙ e in
        record { met = sym m; powers = p ∙ ap (λ (b : Bool). pick b (powers_of c t sets earlier target) earlier) (sym m) }

    pub settled-off : meetable lo hi target ≡ false → Settles front halves zones minima devices cells t sets earlier earlier target false
    settled-off e = let m : can_meet c t sets earlier target ≡ false = sym meets-is ∙ e in
        record { met = sym m; powers = ap (λ (b : Bool). pick b (powers_of c t sets earlier target) earlier) (sym m) }
