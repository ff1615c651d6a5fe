-- The dispatch on arrays: one offer more, the offer at which the target is met, and the run over all offers.
use Rattle.std.specs.Prelude.{◌≡◌, List, [], ◌∷◌, ℕ, ◌+◌, ◌-◌, ◌*◌, ◌≤◌, ◌<◌, leb, length, get_or, set}
use Rattle.numbers.specs.Sum.{sumℕ, All}
use Rattle.optimum.specs.Levels.{level}
use Rattle.offers.specs.declared.Offer.{Offer}
use Rattle.offers.specs.Merit.{pick, no-offer}
use Rattle.raising.specs.declared.Rise.{Rise}

-- the place of an offer's set
abbrev pub place : Offer → ℕ
place o = o.set - 1

abbrev pub height_of : Rise → Offer → ℕ
height_of r o = get_or r.heights (place o) 0 + (o.cap - o.floor)

abbrev pub power_of : Rise → Offer → List ℕ → List ℕ → ℕ
power_of r o lo hi = level (get_or lo (place o) 0) (get_or hi (place o) 0) (height_of r o)

unfoldable pub step_of : Rise → Offer → List ℕ → List ℕ → Rise
step_of r o lo hi = record {
  heights = set r.heights (place o) (height_of r o);
  powers = set r.powers (place o) (power_of r o lo hi);
  total = r.total - get_or r.powers (place o) 0 + power_of r o lo hi;
}

unfoldable pub stop_of : Rise → Offer → ℕ → List ℕ
stop_of r o target = set r.powers (place o) (get_or r.powers (place o) 0 + (target - r.total))

unfoldable pub run : Rise → List Offer → List ℕ → List ℕ → ℕ → List ℕ
run r [] lo hi target = r.powers
run r (o ∷ os) lo hi target = pick (leb target (step_of r o lo hi).total) (stop_of r o target) (run (step_of r o lo hi) os lo hi target)

-- an offer of a set that there is, with a floor not above its cap
pub record Sane (o : Offer) : Type 0 where
  pub from_one : 1 ≤ o.set
  pub to_last : o.set ≤ 64
  pub floors : o.floor ≤ o.cap
  pub caps : o.cap ≤ 100000

-- so that no sum wraps
pub record Fits (r : Rise) (o : Offer) (lo hi : List ℕ) : Type 0 where
  pub sane : Sane o
  pub low : get_or r.heights (place o) 0 ≤ 100000000
  pub part : get_or r.powers (place o) 0 ≤ r.total
  pub most : get_or hi (place o) 0 ≤ 100000
  pub sum : r.total ≤ 6400000

pub record Stops (r : Rise) (o : Offer) (target : ℕ) : Type 0 where
  pub sane : Sane o
  pub short : r.total ≤ target
  pub sum : get_or r.powers (place o) 0 ≤ r.total

-- the sum of a row of powers
abbrev pub sum_of : List ℕ → ℕ
sum_of l = sumℕ (λ x. x) l

-- after k offers: the heights are bounded, the powers within 100,000, and their sum is the total
pub record Good (k : ℕ) (r : Rise) (target : ℕ) : Type 0 where
  pub heights : (i : ℕ) → get_or r.heights i 0 ≤ 50000000 + k * 100000
  pub long : length r.powers ≡ 64
  pub powers : All (λ p. p ≤ 100000) r.powers
  pub total : r.total ≡ sum_of r.powers
  pub short : r.total ≤ target

pub record Ranged (all : List Offer) (n : ℕ) (lo hi : List ℕ) (start : Rise) (target : ℕ) : Type 0 where
  pub room : n ≤ 256
  pub sane : (k : ℕ) → k < n → Sane (get_or all k no-offer)
  pub most : (i : ℕ) → get_or hi i 0 ≤ 100000
  pub begins : Good 0 start target
