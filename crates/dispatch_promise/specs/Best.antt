-- The dispatch of `Dispatch` is the optimum of `optimum` over the case's own offers: such powers exist exactly where the test says so, and then ours are such, cost
-- least, and have the most in the first offers.
use Rattle.std.specs.Prelude.{◌≡◌, T, eqb, length, ℤ}
use mathlib.Core.List.{List}
use Prim.Native.Nat.{ℕ, ◌+◌, ◌-◌, ◌≤◌, ◌<◌, min}
use Rattle.std.proofs.Math.IntN.{pos}
use Rattle.numbers.specs.Laws.{max_zero}
use Rattle.numbers.specs.Sum.{sumℕ, gate, All}
use Rattle.model.specs.Case.{Case}
use Rattle.model.specs.Forced.{intervals, devices, cap, floor}
use Rattle.ranges.specs.Ranges.{SystemRange}
use Rattle.offers.specs.declared.Offer.{Offer}
use Rattle.offers.specs.Merit.{ahead, merit}
use Rattle.optimum.specs.Levels.{of}
use Rattle.raising.specs.Raising.{place}
use Rattle.dispatching.specs.Dispatch.{offer_of, offers_of, once, can_meet, power_of}
use Rattle.dispatch_promise.specs.Such.{Such, carries}

abbrev pub floor_of : Offer → ℕ
floor_of o = o.floor

-- sets of the case, each named once, with an earlier power each, in an interval of the case
pub record Asked (c : Case) (t : ℕ) (sets earlier : List ℕ) : Type 0 where
  pub range : SystemRange c.system
  pub there : t < intervals c.system
  pub single : T (once sets)
  pub known : All (λ s. (1 ≤ s) × (s ≤ devices c.system)) sets
  pub many : length earlier ≡ length sets

module _ (c : Case) (t : ℕ) (sets earlier : List ℕ) (h : Asked c t sets earlier) where
  abbrev pub own : List Offer
  own = offers_of c t sets

  abbrev pub js : List Offer
  js = merit own

  module _ (target : ℕ) where
    -- ---- a rival is feasible
    module _ (p : ℕ → ℤ) (y : ℕ → ℕ → ℤ) (such : Such c t sets earlier target p y) where
      -- its block powers by offer
      unfoldable pub rival : Offer → ℕ
      rival o = max_zero (carries y o)

    -- ---- ours
    module _ (meets : T (can_meet c t sets earlier target)) where
      -- our power of device i, and our block powers
      abbrev pub power : ℕ → ℕ
      power = power_of c t sets earlier target

      unfoldable pub filling : Offer → ℕ
      filling o = o.floor + min (o.cap - o.floor) (power (place o) - of place floor_of (place o) js - sumℕ (λ k. gate (ahead k o) (gate (eqb (place k) (place o)) (k.cap - k.floor))) js)

      abbrev pub ours : ℕ → ℕ → ℤ
      ours i k = pos (filling (offer_of c t i k))
