-- The first word begins with the on bit; each ends with three powers, which are in their ranges where no word borrows.
use Prim.Native.Nat.{◌+◌, ◌*◌}
use native.Mathlib.Omega.{arith}
use Rattle.bits.proofs.Laws.{reaches}
use Rattle.setting_words.specs.Settings.{three_bits}
use Rattle.setting_words.proofs.Ranges.{unborrowed}
use Rattle.setting_words.proofs.Words.{bit-of, three-of, found}
use Rattle.setting_words.proofs.active_words.Goals as goal

pub bits_at-first-requires : goal.bits_at-first-requires
bits_at-first-requires c = omega (arith, reaches c.args.s.now)

pub overflow_add-at : goal.overflow_add-at
overflow_add-at c = omega (arith, reaches c.args.s.now)

pub bits_at-second-requires : goal.bits_at-second-requires
bits_at-second-requires c = omega (arith, reaches c.args.s.now)

pub overflow_add-at-2 : goal.overflow_add-at-2
overflow_add-at-2 c = omega (arith, reaches c.args.s.now)

pub bits_at-third-requires : goal.bits_at-third-requires
bits_at-third-requires c = omega (arith, reaches c.args.s.now)

pub returns : goal.returns
returns c =
    let a = c.args in
    let s = a.s.now in
    let x = c.three_in.ensures in
    let y = c.three_in-2.ensures in
    let z = c.three_in-3.ensures in
    let none = unborrowed _ _ _ c.if-borrows-ne0.false in
    found s a.at c.requires c.active_of.ensures (bit-of s a.at c.bits_at-first.ensures)
    (three-of s a.at 0 a.at 1 c.bits_at-first.ensures x (omega arith))
    (three-of s a.at 3 (a.at + (1 + three_bits)) 0 c.bits_at-second.ensures y (omega arith))
    (three-of s a.at 6 (a.at + (1 + 2 * three_bits)) 0 c.bits_at-third.ensures z (omega arith))
    x y z (c.borrows.ensures none.0) (c.borrows-2.ensures none.1) (c.borrows-3.ensures none.2)
