-- Nothing where the message ends before it.
use Rattle.bit_copier.specs.Moves.{reached-is, short-wide, wide-small, wide-moves}
use native.Mathlib.Omega.{arith}
use mathlib.Core.Path.{refl}
use Rattle.bit_copier.proofs.widen_field.Goals as goal

pub overflow_mul-reached : goal.overflow_mul-reached
overflow_mul-reached c = let a = c.args in omega (arith, c.reached.ensures, (reached-is a.s.now).few)

pub returns-then-reached-from : goal.returns-then-reached-from
returns-then-reached-from c = let s = c in short-wide s.args.width s.args.wider s.requires.0 (omega (arith, c.if-reached-from.true, c.reached.ensures))

pub bits_at-value-requires : goal.bits_at-value-requires
bits_at-value-requires c = let s = c in (
  omega (arith, s.requires.2, s.requires.3),
  omega
      (arith, c.if-reached-from.false, c.reached.ensures, s.requires.0.inside, (reached-is s.args.s.now).there),
)

pub put-pen-requires : goal.put-pen-requires
put-pen-requires c = let b = c in let s = b in (
  s.requires.0.ready,
  omega
      (arith, s.requires.1, s.requires.2),
  s.requires.3,
  wide-small s.args.s.now s.args.q.from s.args.width s.args.wider _ b.bits_at-value.ensures s.requires.2,
)

pub overflow_add-result : goal.overflow_add-result
overflow_add-result c = let e = c in
    let s = e in omega (arith, e.if-reached-from.false, e.reached.ensures, s.requires.0.inside, (reached-is s.args.s.now).few)

pub returns : goal.returns
returns c = let w = c in let b = w in let e = b in
    let s = e in wide-moves s.args.width s.args.wider _ b.bits_at-value.ensures refl (omega
    (arith, e.if-reached-from.false, e.reached.ensures, s.requires.0.inside)) w.put-pen.ensures
