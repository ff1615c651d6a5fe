-- A limit times n is small, and the comparison is that of whole numbers.
use native.Mathlib.Omega.{arith}
use native.Mathlib.Nat.{mul-le-mul}
use Rattle.reactive_tests.specs.Order.{above-limit}
use Rattle.reactive_tests.proofs.above_limit.Goals as goal

pub returns : goal.returns
returns c = let a : _ = c.args in above-limit a.q.0 a.down.0 a.qmin.0 a.n
