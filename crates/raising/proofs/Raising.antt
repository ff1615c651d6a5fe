-- The dispatch on arrays: one offer more, the offer at which the target is met, and the run over all offers.
use Rattle.std.specs.Prelude.{◌≡◌, Bool, List, [], ◌∷◌, ℕ, zero, suc, ◌+◌, ◌-◌, ◌*◌, ◌≤◌, ◌<◌, length, get_or, set}
use Rattle.std.proofs.Common.{sym, ◌∙◌, arith, le-leb, add-one}
use Rattle.std.proofs.Math.Path.{ap}
use Rattle.std.proofs.Math.Seq.{slice, slice-cons, slice_empty}
use Rattle.std.proofs.lemmas.Bool.{lt-leb}
use Rattle.std.proofs.Math.ListN.{length-set}
use Rattle.numbers.specs.Sum.{All}
use Rattle.numbers.specs.Every.{sum_bound}
use Rattle.offers.specs.declared.Offer.{Offer}
use Rattle.offers.specs.Merit.{pick, no-offer}
use Rattle.raising.specs.declared.Rise.{Rise}
use Rattle.raising.specs.Raising.{Fits, Good, Sane, Stops, height_of, place, power_of, run, step_of, stop_of, sum_of}

-- ---- the laws of the loop
part-le : (l : List ℕ) (i : ℕ) → get_or l i 0 ≤ sum_of l
part-le [] i = omega arith
part-le (x ∷ l) zero = omega arith
part-le (x ∷ l) (suc i) = omega (arith, part-le l i)

sum-set : (l : List ℕ) (i v : ℕ) → i < length l → sum_of (set l i v) + get_or l i 0 ≡ sum_of l + v
sum-set [] i v h = absurd (omega arith)
sum-set (x ∷ l) zero v h = omega arith
sum-set (x ∷ l) (suc i) v h = omega (arith, sum-set l i v (omega arith))

all_set : (b : ℕ) (l : List ℕ) (i v : ℕ) → v ≤ b → All (λ p. p ≤ b) l → All (λ p. p ≤ b) (set l i v)
all_set b [] i v h a = tt
all_set b (x ∷ l) zero v h a = (h, a.1)
all_set b (x ∷ l) (suc i) v h a = (a.0, all_set b l i v h a.1)

get_d-set-le : (l : List ℕ) (i v j b : ℕ) → v ≤ b → get_or l j 0 ≤ b → get_or (set l i v) j 0 ≤ b
get_d-set-le [] i v j b h g = g
get_d-set-le (x ∷ l) zero v zero b h g = h
get_d-set-le (x ∷ l) zero v (suc j) b h g = g
get_d-set-le (x ∷ l) (suc i) v zero b h g = g
get_d-set-le (x ∷ l) (suc i) v (suc j) b h g = get_d-set-le l i v j b h g

module _ (k : ℕ) (r : Rise) (target : ℕ) (o : Offer) (lo hi : List ℕ) (good : Good k r target) (few : k ≤ 256) (sane : Sane o) (most : get_or hi (place o) 0 ≤ 100000) where
  at_most : r.total ≤ 6400000
  at_most = let e = good.total in let n = good.long in omega (arith, sum_bound (λ x. x) 100000 r.powers good.powers)

  pub fits-here : Fits r o lo hi
  fits-here = record {
    sane = sane;
    low = omega (arith, good.heights (place o));
    part = omega (arith, good.total, part-le r.powers (place o));
    most = most;
    sum = at_most;
  }

  pub stops-here : Stops r o target
  stops-here = record { sane = sane; short = good.short; sum = omega (arith, good.total, part-le r.powers (place o)) }

  pub good-next : (step_of r o lo hi).total ≤ target → Good (k + 1) (step_of r o lo hi) target
  unfolding step_of
  good-next short = record {
    heights = λ i. get_d-set-le r.heights (place o) (height_of r o) i (50000000 + (k + 1) * 100000) (omega (arith, good.heights (place o), sane.caps)) (omega (arith, good.heights i));
    long = length-set r.powers (place o) (power_of r o lo hi) ∙ good.long;
    powers = all_set 100000 r.powers (place o) (power_of r o lo hi) (omega (arith, most)) good.powers;
    total = omega (arith, good.total, part-le r.powers (place o), sum-set r.powers (place o) (power_of r o lo hi) (omega (arith, sane.from_one, sane.to_last, good.long)));
    short = short;
  }

-- the record that the code makes
pub step_is : (r : Rise) (o : Offer) (lo hi : List ℕ) (w : ℕ) → w ≡ power_of r o lo hi
    → ◌≡◌ {A = Rise} (record { heights = set r.heights (place o) (height_of r o); powers = set r.powers (place o) w; total = r.total - get_or r.powers (place o) 0 + w }) (step_of r o lo hi)
unfolding step_of
step_is r o lo hi w e = λ i. record { heights = set r.heights (place o) (height_of r o); powers = set r.powers (place o) (e i); total = r.total - get_or r.powers (place o) 0 + e i }

module _ (r : Rise) (all : List Offer) (n : ℕ) (lo hi : List ℕ) (target k : ℕ) (h : n ≤ length all) (l : k < n) where
  abbrev here : Offer
  here = get_or all k no-offer

  pub run-stop : target ≤ (step_of r here lo hi).total → run r (slice k n all) lo hi target ≡ stop_of r here target
  unfolding run
  run-stop t = rw (slice-cons k n all no-offer l h) (ap (λ (b : Bool). pick b (stop_of r here target) (run (step_of r here lo hi) (slice (suc k) n all) lo hi target)) (le-leb target
      (step_of r here lo hi).total t))

  pub run_on : (step_of r here lo hi).total < target → run r (slice k n all) lo hi target ≡ run (step_of r here lo hi) (slice (k + 1) n all) lo hi target
  unfolding run
  run_on t = rw (slice-cons k n all no-offer l h)
      (ap (λ (b : Bool). pick b (stop_of r here target) (run (step_of r here lo hi) (slice (suc k) n all) lo hi target)) (lt-leb target (step_of r here lo hi).total t)
      ∙ ap (λ (m : ℕ). run (step_of r here lo hi) (slice m n all) lo hi target) (sym (add-one k)))

pub run_end : (r : Rise) (all : List Offer) (n : ℕ) (lo hi : List ℕ) (target : ℕ) → run r (slice n n all) lo hi target ≡ r.powers
unfolding run
run_end r all n lo hi target = rw (slice_empty n all)
