-- The run over arrays from the floors and the least powers on is the dispatch of `optimum`.
use Rattle.std.specs.Prelude.{◌≡◌, refl, List, [], ◌∷◌, ℕ, suc, ◌+◌, ◌-◌, ◌*◌, ◌≤◌, ◌<◌, min, max, length, take}
use Rattle.std.proofs.Common.{sym, ◌∙◌, ap, subst, arith, length-take-le, get_or-take}
use Rattle.std.proofs.Math.ListN.{get_or}
use Rattle.numbers.specs.Base.{range}
use Rattle.numbers.specs.Sum.{sumℕ, sumℕ-cong, All}
use Rattle.numbers.specs.Every.{all-each, all-up_to}
use Rattle.offers.specs.declared.Offer.{Offer}
use Rattle.offers.specs.Merit.{no-offer}
use Rattle.optimum.specs.Levels.{of, level}
use Rattle.optimum.specs.Answer.{answer}
use Rattle.optimum.specs.Theorem as T
use Rattle.raising.specs.declared.Rise.{Rise}
use Rattle.raising.specs.Raising.{place, run, Sane, Good, Ranged, sum_of}
use Rattle.raising.specs.Link.{at, Level}
use Rattle.raising.proofs.Link.{run_is}
use Rattle.dispatching.specs.Dispatch.{places}
use Rattle.place_totals.specs.Totals.{Small, total_of}
use Rattle.dispatch_arrays.specs.Arrays.{SaneTo, Floors}

-- bounds of each place, within its floors and small, that allow the target from below
pub record Startable (all : List Offer) (n : ℕ) (lo hi : List ℕ) (target : ℕ) : Type 0 where
  pub sane : SaneTo n all
  pub long : length lo ≡ 64
  pub low : Small lo
  pub high : Small hi
  pub floors : (i : ℕ) → of place (λ o. o.floor) i (take n all) ≤ get_or lo i 0
  pub ordered : (i : ℕ) → get_or lo i 0 ≤ get_or hi i 0
  pub least : total_of lo ≤ target

-- the dispatch of `optimum`, place by place
pub record Dispatches (all : List Offer) (n : ℕ) (lo hi : List ℕ) (target : ℕ) (r : List ℕ) : Type 0 where
  pub each : (i : ℕ) → get_or r i 0 ≡ T.dispatched place (λ o. o.cap) (λ o. o.floor) (at lo) (at hi) places (take n all) target i

-- the sum of a list is the sum over its places
list-sum : (l : List ℕ) (k : ℕ) (f : ℕ → ℕ) → ((i : ℕ) → f (k + i) ≡ get_or l i 0) → sumℕ f (range k (length l)) ≡ sum_of l
unfolding range
list-sum [] k f h = refl
list-sum (x ∷ l) k f h = omega (arith, h 0, ap f (zero-add k), list-sum l (suc k) f (λ i. ap f (next k i) ∙ h (suc i)))
  where
    zero-add : (k : ℕ) → k + 0 ≡ k
    zero-add k = omega arith

    next : (k i : ℕ) → suc k + i ≡ k + suc i
    next k i = omega arith

pub total-list : (l : List ℕ) → length l ≡ 64 → total_of l ≡ sum_of l
unfolding total_of
total-list l n = ap (λ (m : ℕ). sumℕ (λ i. get_or l i 0) (range 0 m)) (sym n) ∙ list-sum l 0 (λ i. get_or l i 0) (λ i. ap (λ (k : ℕ). get_or l k 0) (zero_in i))
  where
    zero_in : (i : ℕ) → 0 + i ≡ i
    zero_in i = omega arith

module _ (all : List Offer) (n : ℕ) (lo hi : List ℕ) (target : ℕ) (full : length all ≡ 256) (s : Startable all n lo hi target)
    (heights : List ℕ) (f : Floors (take n all) heights) (total : ℕ) (e : total ≡ total_of lo) where
  abbrev start : Rise
  start = record { heights = heights; powers = lo; total = total }

  few : length (take n all) ≤ 256
  few = omega (arith, length-take-le n all (omega (arith, full, s.sane.few)), s.sane.few)

  pub ranged : Ranged all n lo hi start target
  ranged = record {
    room = s.sane.few;
    sane = s.sane.sane;
    most = s.high.each;
    begins = record {
      heights = λ i. omega (arith, f.small i, few);
      long = s.long;
      powers = all-each (λ p. p ≤ 100000) 0 lo (λ k l. s.low.each k);
      total = e ∙ total-list lo s.long;
      short = omega (arith, e, s.least);
    };
  }

  at-floors : (i : ℕ) → get_or lo i 0 ≡ level (get_or lo i 0) (get_or hi i 0) (get_or heights i 0)
  at-floors i = omega (arith, f.each i, s.floors i, s.ordered i)

  level-start : Level lo hi start
  unfolding total_of
  level-start = record {
    tall = f.long;
    long = s.long;
    powers = at-floors;
    total = e ∙ sumℕ-cong (λ i. get_or lo i 0) (λ i. level (get_or lo i 0) (get_or hi i 0) (get_or heights i 0)) places (all-up_to (λ i. get_or lo i 0 ≡ level (get_or lo i 0) (get_or hi i 0)
        (get_or heights i 0)) 64 (λ i l. at-floors i));
  }

  all-sane : All Sane (take n all)
  all-sane = all-each Sane no-offer (take n all) (λ k l. subst Sane (sym (get_or-take n all k no-offer (omega (arith, here)))) (s.sane.sane k (omega (arith, here))))
    where
      here : length (take n all) ≡ n
      here = length-take-le n all (omega (arith, full, s.sane.few))

  pub run-dispatches : (r : List ℕ) → r ≡ run start (take n all) lo hi target → Dispatches all n lo hi target r
  run-dispatches r g = record {
    each = λ i. ap (λ (l : List ℕ). get_or l i 0) g ∙ run_is lo hi (take n all) start target all-sane level-start i
        ∙ ap (λ (w : ℕ → ℕ). answer place (λ o. o.cap) (λ o. o.floor) (at lo) (at hi) places w (take n all) target i) (λ k j. f.each j k);
  }
