-- Nothing where the message ends before it.
use native.Mathlib.Omega.{arith}
use Rattle.bit_copier.specs.Moves.{reached-is}
use Rattle.market_copier.proofs.skip_bits.Goals as goal

pub overflow_mul-reached : goal.overflow_mul-reached
overflow_mul-reached c = omega (arith, c.reached.ensures, (reached-is c.args.s.now).few)

pub overflow_add-result : goal.overflow_add-result
overflow_add-result c = omega (arith, c.if-reached-from.false, c.reached.ensures, c.requires.inside, (reached-is c.args.s.now).few)
