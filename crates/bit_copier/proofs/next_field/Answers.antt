-- 0 where the message ends before it.
use Rattle.bit_copier.specs.Moves.{reached-is, peeked-is}
use native.Mathlib.Omega.{arith}
use Rattle.bit_copier.proofs.next_field.Goals as goal

pub overflow_mul-reached : goal.overflow_mul-reached
overflow_mul-reached c = let a = c.args in omega (arith, c.reached.ensures, (reached-is a.s.now).few)

pub bits_at-requires : goal.bits_at-requires
bits_at-requires c = let s = c in (s.requires.1, omega (arith, c.if-reached-from.false, c.reached.ensures, s.requires.0.inside, (reached-is s.args.s.now).there))

pub returns : goal.returns
returns c = let s = c in peeked-is s.args.width _ s.args.s.now s.args.q c.bits_at.ensures
