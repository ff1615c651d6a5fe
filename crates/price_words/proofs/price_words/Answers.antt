-- Each word holds four prices, which are in their ranges where neither borrows.
use Prim.Native.Nat.{◌+◌}
use native.Mathlib.Omega.{arith}
use Rattle.bits.proofs.Laws.{reaches, field_lt}
use Rattle.price_words.specs.Prices.{four_bits}
use Rattle.price_words.proofs.Prices.{unborrowed, four-of, found}
use Rattle.price_words.proofs.price_words.Goals as goal

pub bits_at-first-requires : goal.bits_at-first-requires
bits_at-first-requires c = omega (arith, reaches c.args.s.now)

pub overflow_add-at : goal.overflow_add-at
overflow_add-at c = omega (arith, reaches c.args.s.now)

pub bits_at-second-requires : goal.bits_at-second-requires
bits_at-second-requires c = omega (arith, reaches c.args.s.now)

pub borrows-requires : goal.borrows-requires
borrows-requires c =
    let k = c in
    let a = k.args in
    omega (arith, k.bits_at-first.ensures, field_lt a.s.now a.at four_bits)

pub borrows-requires-2 : goal.borrows-requires-2
borrows-requires-2 c =
    let k = c in
    let a = k.args in
    omega (arith, k.bits_at-second.ensures, field_lt a.s.now (a.at + four_bits) four_bits)

pub returns : goal.returns
returns c =
    let n = c in
    let k = n.before in
    let a = k.args in
    let s = a.s.now in
    let x = c.four_in.ensures in
    let y = c.four_in-2.ensures in
    let none = unborrowed _ _ c.if-borrows-ne0.false in
    found s a.at k.requires c.eight_of.ensures
    (four-of s a.at 0 a.at k.bits_at-first.ensures x (omega arith))
    (four-of s a.at 4 (a.at + four_bits) n.bits_at-second.ensures y (omega arith))
    x y (n.borrows.ensures none.0) (c.borrows-2.ensures none.1)
