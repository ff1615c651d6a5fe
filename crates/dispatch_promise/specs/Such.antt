-- What is asked of the powers: "It lies within pmin, pmax, floors, caps and the ramps of rules 5 and 6. The powers add up to the target", for powers and block powers
-- in whole numbers of any size. Devices, intervals and blocks count from 0.
use Rattle.std.specs.Prelude.{◌≡◌, List, ℕ, ◌-◌, ◌*◌, ◌<◌, length, get_or, ℤ, ◌-ℤ◌, ◌*ℤ◌, ◌≤ℤ◌}
use Rattle.std.proofs.Math.IntN.{pos}
use Rattle.numbers.specs.Sum.{sumℤ}
use Rattle.model.specs.Case.{System, Case}
use Rattle.model.specs.Forced.{cell, cap, floor}
use Rattle.model.specs.Rules.{blocks}
use Rattle.offers.specs.declared.Offer.{Offer}
use Rattle.dispatching.specs.Dispatch.{rise, fall}

-- the power of device i in interval t, from an earlier power
pub record Allowed (q : System) (t i earlier : ℕ) (p : ℤ) : Type 0 where
  pub pmin : pos (cell q t i).pmin ≤ℤ p
  pub pmax : p ≤ℤ pos (cell q t i).pmax
  -- rules 5 and 6, of a device that is on and does not start
  pub rises : (p -ℤ pos earlier) ≤ℤ pos (rise q t i)
  pub falls : (pos earlier -ℤ p) ≤ℤ pos (fall q t i)

-- powers p and block powers y of the named sets; a power lies within floors and caps where its blocks do
pub record Such (c : Case) (t : ℕ) (sets earlier : List ℕ) (target : ℕ) (p : ℕ → ℤ) (y : ℕ → ℕ → ℤ) : Type 0 where
  pub allowed : (j : ℕ) → j < length sets → Allowed c.system t (get_or sets j 0 - 1) (get_or earlier j 0) (p (get_or sets j 0 - 1))
  pub floors : (j : ℕ) → j < length sets → (k : ℕ) → k < 4 → pos (floor c.system t (get_or sets j 0 - 1) k) ≤ℤ y (get_or sets j 0 - 1) k
  pub caps : (j : ℕ) → j < length sets → (k : ℕ) → k < 4 → y (get_or sets j 0 - 1) k ≤ℤ pos (cap c.system t (get_or sets j 0 - 1) k)
  pub carried : (j : ℕ) → j < length sets → sumℤ (y (get_or sets j 0 - 1)) blocks ≡ p (get_or sets j 0 - 1)
  pub meets : sumℤ (λ s. p (s - 1)) sets ≡ pos target

-- the power of an offer's block, and what the blocks of a list of offers cost
abbrev pub carries : (ℕ → ℕ → ℤ) → Offer → ℤ
carries y o = y (o.set - 1) (o.block - 1)

abbrev pub cost_of : (ℕ → ℕ → ℤ) → List Offer → ℤ
cost_of y offers = sumℤ (λ o. o.price *ℤ carries y o) offers
