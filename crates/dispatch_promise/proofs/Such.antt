-- What is asked of the powers: "It lies within pmin, pmax, floors, caps and the ramps of rules 5 and 6. The powers add up to the target", for powers and block powers
-- in whole numbers of any size. Devices, intervals and blocks count from 0.
use Rattle.std.specs.Prelude.{◌≡◌, ℕ, ◌+◌, ◌-◌, ◌*◌}
use Rattle.std.proofs.Common.{ap}
use native.Mathlib.Omega.{arith}
use Rattle.std.proofs.Math.IntN.{pos}
use Rattle.model.specs.Case.{System, Plan}
use Rattle.model.specs.Forced.{device, duration, u, su}
use Rattle.model.specs.Rules.{may_rise, may_fall}
use Rattle.dispatching.specs.Dispatch.{rise, fall}

-- ---- rise and fall are the right sides of rules 5 and 6
module _ (q : System) (p : Plan) (t i : ℕ) where
  pub rule-5 : u q p t i ≡ 1 → su q p t i ≡ 0 → may_rise q p t i ≡ pos (rise q t i)
  unfolding may_rise rise
  rule-5 e f = let x : (device q i).ramps.up * 1 + (device q i).ramps.starting * 0 ≡ (device q i).ramps.up = omega arith in rw (e, f) (ap (λ (n : ℕ). pos (duration q t * n)) x)

  pub rule-6 : u q p t i ≡ 1 → may_fall q p t i ≡ pos (fall q t i)
  unfolding may_fall fall
  rule-6 e = let x : (device q i).ramps.down * 1 + (device q i).ramps.stopping * 0 ≡ (device q i).ramps.down = omega arith in rw e (ap (λ (n : ℕ). pos (duration q t * n)) x)
