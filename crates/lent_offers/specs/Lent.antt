-- The lent offers against the case's own: both in the order of merit, place by place, as `Dispatch.offers_fit` has it.
use Rattle.std.specs.Prelude.{◌≡◌, refl, Bool, true, false, List, ◌++◌, ℕ, ◌≤◌, ◌<◌, T, length, take, drop}
use Rattle.std.proofs.Common.{sym, ◌∙◌, ap, subst, arith, length-take-le, take_at}
use Rattle.model.specs.Case.{Case}
use Rattle.offers.specs.declared.Offer.{Offer}
use Rattle.offers.specs.Merit.{room, merit, merit_head}
use Rattle.offers.specs.Sorting.{merit-length}
use Rattle.offers.specs.Same.{same_offers, same-offers}
use Rattle.dispatching.specs.Dispatch.{offers_of, offers_fit}

-- `own` tells whether the first `count` are the case's own; `after` is the array with them in the order of merit
pub record Sorts (c : Case) (t : ℕ) (sets : List ℕ) (all : List Offer) (count : ℕ) (own : Bool) (after : List Offer) : Type 0 where
  pub fits : own ≡ offers_fit c t sets (take count all)
  pub sorted : after ≡ merit_head count all

pub record Matches (found : List Offer) (n : ℕ) (all : List Offer) (count : ℕ) (own : Bool) (after : List Offer) : Type 0 where
  pub same : own ≡ same_offers (merit (take count all)) (merit (take n found))
  pub sorted : after ≡ merit_head count all

-- the first of an array with its first in order
pub head-sorted : (n : ℕ) (all : List Offer) → n ≤ length all → take n (merit_head n all) ≡ merit (take n all)
unfolding merit_head
head-sorted n all h = take_at (merit (take n all)) (drop n all) n (merit-length (take n all) ∙ length-take-le n all h)

module _ (all found : List Offer) (count n : ℕ) (full : length all ≡ 256) (long : length found ≡ 256) (few : count ≤ room) where
  -- as many: place by place
  pub alike : (lent ours : List Offer) (r : Bool) → n ≡ count → lent ≡ merit_head count all → ours ≡ merit_head count found → r ≡ same_offers (take count lent) (take count ours)
      → Matches found n all count r lent
  alike lent ours r e a b g = record {
    same = g ∙ (λ k. same_offers ((ap (take count) a ∙ head-sorted count all (omega (arith, full, few))) k)
        ((ap (take count) b ∙ head-sorted count found (omega (arith, long, few)) ∙ ap (λ (m : ℕ). merit (take m found)) (sym e)) k));
    sorted = a;
  }

  -- not as many
  pub apart : (lent : List Offer) → n ≤ room → (n ≡ count → ⊥) → lent ≡ merit_head count all → Matches found n all count false lent
  apart lent most d a = record { same = sym (never (same_offers (merit (take count all)) (merit (take n found))) refl); sorted = a }
    where
      never : (b : Bool) → same_offers (merit (take count all)) (merit (take n found)) ≡ b → b ≡ false
      never false e = refl
      never true e =
          let same = same-offers (merit (take count all)) (merit (take n found)) (subst (λ (x : Bool). T x) (sym e) tt) in
          absurd (d (omega (
            arith,
            ap (λ (l : List Offer). length l) same,
            merit-length (take count all),
            merit-length (take n found),
            length-take-le n found (omega (arith, long, most)),
            length-take-le count all (omega (arith, full, few)),
          )))

-- against the case's own
pub sorts : (c : Case) (t : ℕ) (sets : List ℕ) {all found after : List Offer} {count n : ℕ} {own : Bool} → take n found ≡ offers_of c t sets → Matches found n all count own after
    → Sorts c t sets all count own after
unfolding offers_fit
sorts c t sets {all} {found} {after} {count} e m = record { fits = m.same ∙ ap (λ (l : List Offer). same_offers (merit (take count all)) (merit l)) e; sorted = m.sorted }
