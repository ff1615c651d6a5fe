-- A limit times n is small, and the comparison is that of whole numbers.
use native.Mathlib.Omega.{arith}
use native.Mathlib.Nat.{mul-le-mul}
use Rattle.reactive_tests.specs.Order.{below-limit}
use Rattle.reactive_tests.proofs.below_limit.Goals as goal

pub returns : goal.returns
returns c = let a : _ = c.args in below-limit a.q.0 a.up.0 a.qmax.0 a.n
