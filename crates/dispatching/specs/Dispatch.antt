-- "Cheapest dispatch of one interval": what is asked, and what is given back. An interval and a set are numbers from 1; in `model` they count from 0.
use Rattle.std.specs.Prelude.{Bool, true, false, ◌&&◌, ◌||◌, not, List, [], ◌∷◌, map, ℕ, suc, ◌+◌, ◌-◌, ◌*◌, min, max, eqb, leb, length}
use Rattle.numbers.specs.Base.{up_to, every, gather}
use Rattle.numbers.specs.Sum.{sumℕ}
use Rattle.bits.specs.Pick.{pick}
use Rattle.layouts.specs.Layout.{Whole, passes, fails}
use Rattle.layouts.specs.Faults.{number_of, returned_by}
use Rattle.model.specs.Case.{System, Case}
use Rattle.model.specs.Forced.{intervals, devices, device, cell, cap, floor, duration, consuming}
use Rattle.model.specs.Rules.{blocks}
use Rattle.model.specs.Completion.{block_price}
use Rattle.model.specs.Editions.{Largest, most_devices}
use Rattle.model.specs.ByEdition.{Stated, stated_in}
use Rattle.offers.specs.declared.Offer.{Offer}
use Rattle.offers.specs.Merit.{merit}
use Rattle.offers.specs.Same.{same_offers}
use Rattle.optimum.specs.Theorem as T
use Rattle.dispatching.specs.declared.Dispatch.{Dispatch}
use Rattle.dispatching.specs.declared.Dispatch.TheVariants.{Dispatched, Refused, Unfit, Unmet}

-- ---- the bounds of a set

-- device i in interval t, on in this interval and the one before, from an earlier power
module _ (q : System) (t i : ℕ) where
  -- how far rules 5 and 6 let it rise and fall, with u = 1 and su = 0
  unfoldable pub rise : ℕ
  rise = duration q t * (device q i).ramps.up

  unfoldable pub fall : ℕ
  fall = duration q t * (device q i).ramps.down

  -- "within pmin, pmax, floors, caps and the ramps of rules 5 and 6": the least power and the most
  unfoldable pub lowest : ℕ → ℕ
  lowest earlier = max (cell q t i).pmin (max (sumℕ (floor q t i) blocks) (earlier - fall))

  unfoldable pub highest : ℕ → ℕ
  highest earlier = min (cell q t i).pmax (min (sumℕ (cap q t i) blocks) (earlier + rise))

-- ---- the offers

module _ (c : Case) (t : ℕ) where
  -- "each with its set, block number (both from 1), cap, floor and price": a block as an offer
  abbrev pub offer_of : ℕ → ℕ → Offer
  offer_of i k = record { set = suc i; block = suc k; cap = cap c.system t i k; floor = floor c.system t i k; price = block_price c t i k }

  unfoldable pub offers_of_set : ℕ → List Offer
  offers_of_set i = map (offer_of i) (up_to (length (cell c.system t i).blocks))

  -- "the blocks of the named sets in that interval"
  unfoldable pub offers_of : List ℕ → List Offer
  offers_of sets = gather (λ s. offers_of_set (s - 1)) sets

-- ---- what must fit the case, else 8

-- a number from 1 to n
abbrev pub counted : ℕ → ℕ → Bool
counted n k = leb 1 k && leb k n

-- whether a set is among those named
unfoldable pub among : ℕ → List ℕ → Bool
among s [] = false
among s (r ∷ rs) = eqb s r || among s rs

-- no set is "named twice"
unfoldable pub once : List ℕ → Bool
once [] = true
once (s ∷ ss) = not (among s ss) && once ss

-- a set that is in the case and does not consume
unfoldable pub producing : System → ℕ → Bool
producing q s = counted (devices q) s && not (consuming q (s - 1))

-- all but the offers; so many earlier powers are lent
unfoldable pub sets_fit : System → ℕ → List ℕ → ℕ → Bool
sets_fit q interval sets lent = counted (intervals q) interval && every (producing q) sets && once sets && eqb lent (length sets)

-- "The offers must be exactly the blocks of the named sets in that interval": in one order they are one list
unfoldable pub offers_fit : Case → ℕ → List ℕ → List Offer → Bool
offers_fit c t sets offers = same_offers (merit offers) (merit (offers_of c t sets))

-- ---- the powers

-- a figure of device i by the earlier power of its set; 0 where it is not named
unfoldable pub of_named : (ℕ → ℕ → ℕ) → List ℕ → List ℕ → ℕ → ℕ
of_named f [] ps i = 0
of_named f (s ∷ ss) [] i = 0
of_named f (s ∷ ss) (p ∷ ps) i = pick (eqb (s - 1) i) (f i p) (of_named f ss ps i)

-- the places of all devices that a case can have
abbrev pub places : List ℕ
places = up_to most_devices

module _ (c : Case) (t : ℕ) (sets powers : List ℕ) where
  abbrev q : System
  q = c.system

  abbrev pub lowest_of : ℕ → ℕ
  lowest_of = of_named (lowest q t) sets powers

  abbrev pub highest_of : ℕ → ℕ
  highest_of = of_named (highest q t) sets powers

  -- whether there are such powers
  unfoldable pub can_meet : ℕ → Bool
  can_meet target = every (λ i. leb (lowest_of i) (highest_of i)) places && leb (sumℕ lowest_of places) target && leb target (sumℕ highest_of places)

  -- from their least powers the sets are raised, offer by offer in merit order, each within its bounds, until the target is met
  unfoldable pub power_of : ℕ → ℕ → ℕ
  power_of target i = T.dispatched (λ o. o.set - 1) (λ o. o.cap) (λ o. o.floor) lowest_of highest_of places (merit (offers_of c t sets)) target i

  -- "one power for each such set, in the order named"
  unfoldable pub powers_of : ℕ → List ℕ
  powers_of target = map (λ s. power_of target (s - 1)) sets

-- ---- what is given back

-- the answer, "written over the earlier powers", and the list "found again in merit order"
pub record Outcome : Type 0 where
  pub answer : Dispatch
  pub powers : List ℕ
  pub offers : List Offer

-- "on any refusal the list keeps the order it came in, and the earlier powers are untouched"
abbrev pub untouched : Dispatch → List ℕ → List Offer → Outcome
untouched r powers offers = record { answer = r; powers = powers; offers = offers }

-- "with 8 (returned: 0) ..; then with 9 (returned: the target)"
unfoldable pub dispatch_in : Case → ℕ → List ℕ → List ℕ → List Offer → ℕ → Outcome
dispatch_in c interval sets powers offers target =
    let t = interval - 1 in
    pick (sets_fit c.system interval sets (length powers) && offers_fit c t sets offers)
    (pick (can_meet c t sets powers target)
    (record { answer = Dispatched; powers = powers_of c t sets powers target; offers = merit offers })
    (untouched (Unmet target) powers offers))
    (untouched Unfit powers offers)

-- "After all reading refusals"
abbrev pub with_case : ℕ → List ℕ → List ℕ → List Offer → ℕ → Whole Stated → Outcome
with_case interval sets powers offers target (passes x) = dispatch_in x.case interval sets powers offers target
with_case interval sets powers offers target (fails f) = untouched (Refused f) powers offers

unfoldable pub dispatch : Largest → List ℕ → ℕ → List ℕ → List ℕ → List Offer → ℕ → Outcome
dispatch l cs interval sets powers offers target = with_case interval sets powers offers target (stated_in l cs)

-- ---- the paper's numbers

-- a refusal's number, 0 where there is none, and what is returned with it
abbrev pub number : Dispatch → ℕ
number Dispatched = 0
number (Refused f) = number_of f
number Unfit = 8
number (Unmet target) = 9

abbrev pub returned : Dispatch → ℕ
returned Dispatched = 0
returned (Refused f) = returned_by f
returned Unfit = 0
returned (Unmet target) = target
