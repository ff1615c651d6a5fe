-- Ramp and minutes are small, so their product fits.
use Rattle.std.proofs.Common.{arith}
use Rattle.std.proofs.Math.Nat.{mul-le-mul}
use Rattle.trajectories.proofs.left_after.Goals as goal

pub overflow_mul-ramp : goal.overflow_mul-ramp
overflow_mul-ramp c = omega (arith, mul-le-mul c.requires.1 c.requires.2)
