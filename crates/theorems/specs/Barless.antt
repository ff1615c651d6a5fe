-- Where every set stands on bar 0 and nothing flows, the mismatch of bar 0 is that of one busbar and there is none on another, rule 27 holds, and our completion,
-- its surplus and the list of breaches are those of before.
use Rattle.std.specs.Prelude.{◌≡◌, Bool, ◌&&◌}
use Rattle.std.proofs.Math.Path.{refl}
use Rattle.std.proofs.Common.{arith}
use Rattle.std.proofs.Math.Bool.{true, false, not}
use Prim.Native.Nat.{ℕ, suc, ◌≤◌}
use borrow.Author.Tests.{ne_eqb}
use Rattle.std.proofs.Math.IntN.{nat_abs}
use Rattle.numbers.specs.Sum.{gate}
use Rattle.numbers.specs.Every.{all-or}
use Rattle.numbers.specs.Base.{up_to}
use Rattle.numbers.specs.Bounds.{bound-sub}
use Rattle.numbers.specs.Ranges.{sum-few}
use Rattle.layouts.specs.Since.{has}
use Rattle.model.specs.Case.{System, Plan, Case, no_device, no_flow}
use Rattle.model.specs.Forced.{devices, device, consuming, on_bar, flow, power}
use Rattle.model.specs.Completion as C
use Rattle.ranges.specs.Plain.{SystemPlain, PlanPlain}
use Rattle.ranges.specs.Barless.{DeviceBarless, SystemBarless, PlanBarless}
use Rattle.theorems.specs.Plain.{sum-none}

-- what an edition lacks is neutral in a case and a plan of it
pub record Lacks (e : ℕ) (q : System) (p : Plan) : Type 0 where
  pub plain : has 2 e ≡ false → SystemPlain q × PlanPlain p
  pub barless : has 5 e ≡ false → SystemBarless q × PlanBarless p

module _ (q : System) (p : Plan) (hs : SystemBarless q) (hp : PlanBarless p) where
  pub bar-0 : (i : ℕ) → (device q i).bar ≡ 0
  bar-0 i = all-or DeviceBarless no_device refl q.devices hs.devices i

  pub no-flow : (t : ℕ) → flow q p t ≡ no_flow
  no-flow t = all-or (λ z. z ≡ no_flow) no_flow refl p.flows hp.flows t

  not_on : (b i : ℕ) → on_bar q (suc b) i ≡ false
  not_on b i = rw (bar-0 i) (ne_eqb 0 (suc b) (λ e. omega arith))

  none-on : (s : Bool) (t b : ℕ) → C.total q p s t (suc b) ≡ 0
  unfolding C.total
  none-on true t b = omega (arith, sum-few (λ i. gate (on_bar q (suc b) i && consuming q i) (power q p t i)) 0 (devices q) (devices q) (omega arith) (λ i l. rw (not_on b i) (omega arith)))
  none-on false t b = omega (arith, sum-few (λ i. gate (on_bar q (suc b) i && not (consuming q i)) (power q p t i)) 0 (devices q) (devices q) (omega arith) (λ i l. rw (not_on b i) (omega arith)))

  pub other-bar : (t b : ℕ) → C.mismatch_need q p t (suc b) ≡ 0
  unfolding C.mismatch_need
  other-bar t b = rw (no-flow t, none-on true t b, none-on false t b, ne_eqb (suc b) 0 (λ e. omega arith)) refl

  side-none : (s : Bool) (t b : ℕ) → nat_abs (C.reactive_total q p s t (suc b)) ≤ 0
  unfolding C.reactive_total
  side-none true t b = sum-none _ (up_to (devices q)) (λ i. rw (not_on b i) (omega arith))
  side-none false t b = sum-none _ (up_to (devices q)) (λ i. rw (not_on b i) (omega arith))

  pub other-bar-reactive : (t b : ℕ) → C.reactive_mismatch_need q p t (suc b) ≡ 0
  unfolding C.reactive_mismatch_need
  other-bar-reactive t b = omega (arith, bound-sub (C.reactive_total q p true t (suc b)) (C.reactive_total q p false t (suc b)) 0 0 (side-none true t b) (side-none false t b))

-- ---- the completion and its surplus
module _ (c : Case) (p : Plan) (hs : SystemBarless c.system) (hp : PlanBarless p) where
  abbrev pub q : System
  q = c.system
