-- The sets that are named, place by place.
use Rattle.std.specs.Prelude.{◌≡◌, Bool, ◌&&◌, List, ℕ, ◌+◌, ◌-◌, ◌≤◌, ◌<◌, length, get_or, drop}
use Rattle.std.proofs.Math.Path.{refl, ap}
use Rattle.std.proofs.Common.{◌∙◌, arith, drop_of_length-le, drop-cons}
use Rattle.std.proofs.Math.Bool.{true, false, not}
use Rattle.std.proofs.Math.Numerals.{add-one}
use borrow.Author.Tests.{le-leb, lt-leb, leb-true}
use Rattle.std.proofs.Math.Dec.{eqb, leb}
use Rattle.numbers.specs.Base.{every}
use Rattle.row_places.specs.Figures.{side_at}
use Rattle.model.specs.Case.{System}
use Rattle.model.specs.Forced.{consuming}
use Rattle.records.specs.Views.{system_in}
use Rattle.records.specs.Viewed.{intervals-are, devices-are, consuming-is}
use Rattle.dispatching.specs.Dispatch.{counted, among, once, producing, sets_fit}

-- a set that the rows have, and that produces
abbrev pub produces : List (List ℕ) → ℕ → Bool
produces devices s = counted (length devices) s && not (eqb (side_at devices (s - 1)) 1)

-- the sets are of the case, producing, and named once
unfoldable pub named : List (List ℕ) → List ℕ → Bool
named devices sets = every (produces devices) sets && once sets

module _ (sets : List ℕ) where
  module _ (devices : List (List ℕ)) where
    pub named_end : (k : ℕ) → length sets ≤ k → named devices (drop k sets) ≡ true
    unfolding named once every
    named_end k h = rw (drop_of_length-le sets h)

    named-next : (k : ℕ) → k < length sets → named devices (drop k sets)
        ≡ (produces devices (get_or sets k 0) && every (produces devices) (drop (k + 1) sets)) && (not (among (get_or sets k 0) (drop (k + 1) sets)) && once (drop (k + 1) sets))
    unfolding named once every
    named-next k h = rw (drop-cons sets k 0 h, add-one k)

    pub named-not : (k : ℕ) → k < length sets → produces devices (get_or sets k 0) ≡ false → named devices (drop k sets) ≡ false
    named-not k h e = named-next k h ∙ ap (λ (t : Bool). (t && every (produces devices) (drop (k + 1) sets)) && (not (among (get_or sets k 0) (drop (k + 1) sets)) && once (drop (k + 1) sets))) e

    no-and : (a : Bool) → a && false ≡ false
    no-and true = refl
    no-and false = refl

    pub named-twice : (k : ℕ) → k < length sets → among (get_or sets k 0) (drop (k + 1) sets) ≡ true → named devices (drop k sets) ≡ false
    named-twice k h e = named-next k h ∙ ap (λ (t : Bool). (produces devices (get_or sets k 0) && every (produces devices) (drop (k + 1) sets)) && (not t && once (drop (k + 1) sets))) e
        ∙ no-and (produces devices (get_or sets k 0) && every (produces devices) (drop (k + 1) sets))

    pub named-on : (k : ℕ) → k < length sets → produces devices (get_or sets k 0) ≡ true → among (get_or sets k 0) (drop (k + 1) sets) ≡ false
        → named devices (drop k sets) ≡ named devices (drop (k + 1) sets)
    unfolding named
    named-on k h e f = named-next k h ∙ (λ i. (e i && every (produces devices) (drop (k + 1) sets)) && (not (f i) && once (drop (k + 1) sets)))

-- ---- what must fit, by the rows
module _ (halves : List ℕ) (zones minima devices cells : List (List ℕ)) where
  abbrev q : System
  q = system_in halves zones minima devices cells

  producing-is : (s : ℕ) → producing q s ≡ produces devices s
  unfolding producing
  producing-is s = ap (λ (n : ℕ). counted n s && not (consuming q (s - 1))) (devices-are halves zones minima devices cells) ∙ go (leb 1 s) (leb s (length devices)) refl refl
    where
      go : (a b : Bool) → leb 1 s ≡ a → leb s (length devices) ≡ b → (a && b) && not (consuming q (s - 1)) ≡ (a && b) && not (eqb (side_at devices (s - 1)) 1)
      go true true e f = ap not (consuming-is halves zones minima devices cells (s - 1) (omega (arith, leb-true 1 s e, leb-true s (length devices) f)))
      go true false e f = refl
      go false b e f = refl

  and_assoc : (a b c d : Bool) → a && b && c && d ≡ a && (b && c) && d
  and_assoc true b c d = refl
  and_assoc false b c d = refl

  fit_is : (interval : ℕ) (sets : List ℕ) (lent : ℕ) → sets_fit q interval sets lent ≡ counted (length halves) interval && named devices sets && eqb lent (length sets)
  unfolding sets_fit named
  fit_is interval sets lent =
      (λ i. counted (intervals-are halves zones minima devices cells i) interval && every (λ s. producing-is s i) sets && once sets && eqb lent (length sets))
      ∙ and_assoc (counted (length halves) interval) (every (produces devices) sets) (once sets) (eqb lent (length sets))

  module _ (interval : ℕ) (sets : List ℕ) (lent : ℕ) where
    pub no-interval : interval < 1 → sets_fit q interval sets lent ≡ false
    no-interval h = fit_is interval sets lent ∙ rw (lt-leb 1 interval h) refl

    pub past-the-last : length halves < interval → sets_fit q interval sets lent ≡ false
    past-the-last h = fit_is interval sets lent ∙ go (leb 1 interval)
      where
        go : (b : Bool) → (b && leb interval (length halves)) && named devices sets && eqb lent (length sets) ≡ false
        go true = rw (lt-leb interval (length halves) h) refl
        go false = refl

    module _ (h : 1 ≤ interval) (l : interval ≤ length halves) where
      here : (b : Bool) → named devices sets ≡ b → sets_fit q interval sets lent ≡ b && eqb lent (length sets)
      here b e = fit_is interval sets lent ∙ rw (le-leb 1 interval h, le-leb interval (length halves) l, e) refl

      pub not_named : named devices sets ≡ false → sets_fit q interval sets lent ≡ false
      not_named e = here false e

      pub as_many : named devices sets ≡ true → sets_fit q interval sets lent ≡ eqb lent (length sets)
      as_many e = here true e
