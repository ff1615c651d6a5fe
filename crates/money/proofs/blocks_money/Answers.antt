-- By side: the value on the one side of the ledger, the offset on the other.
use mathlib.Core.Logic.{inr}
use Prim.Native.Nat.{◌*◌}
use native.Mathlib.Omega.{arith}
use borrow.Author.Tests.{eq-eqb, ne_eqb}
use Rattle.records.specs.Views.{price_offset}
use Rattle.money.specs.Bounds.{blocks_most, worth_most}
use Rattle.money.specs.Worth.{value_of, over-most, trade-consuming, trade-producing}
use Rattle.money.proofs.blocks_money.Goals as goal

pub worth-requires : goal.worth-requires
worth-requires c = (c.requires.1, inr (omega arith))

pub earn-requires : goal.earn-requires
earn-requires c =
    let a : _ = c.args in
    let v : _ = over-most a.minutes (value_of a.powers a.kept) (blocks_most * worth_most) c.requires.2 c.blocks_worth.ensures c.over-value.ensures in
    omega (arith, c.requires.0.credit, v.1)

pub spend-requires : goal.spend-requires
spend-requires c =
    let a : _ = c.args in
    let f : _ = over-most a.minutes (price_offset * a.p.0) worth_most c.requires.2 c.worth.ensures c.over-offset.ensures in
    omega (arith, c.requires.0.debit, c.earn.ensures.debits, f.1)

pub earn-requires-else-side-eq1 : goal.earn-requires-else-side-eq1
earn-requires-else-side-eq1 c =
    let a : _ = c.args in
    let f : _ = over-most a.minutes (price_offset * a.p.0) worth_most c.requires.2 c.worth.ensures c.over-offset.ensures in
    omega (arith, c.requires.0.credit, f.1)

pub spend-requires-else-side-eq1 : goal.spend-requires-else-side-eq1
spend-requires-else-side-eq1 c =
    let a : _ = c.args in
    let v : _ = over-most a.minutes (value_of a.powers a.kept) (blocks_most * worth_most) c.requires.2 c.blocks_worth.ensures c.over-value.ensures in
    omega (arith, c.requires.0.debit, c.earn-else-side-eq1.ensures.debits, v.1)

pub returns-then-side-eq1 : goal.returns-then-side-eq1
returns-then-side-eq1 c =
    let a : _ = c.args in
    let f : _ = over-most a.minutes (price_offset * a.p.0) worth_most c.requires.2 c.worth.ensures c.over-offset.ensures in
    let v : _ = over-most a.minutes (value_of a.powers a.kept) (blocks_most * worth_most) c.requires.2 c.blocks_worth.ensures c.over-value.ensures in
    trade-consuming a.side a.minutes (value_of a.powers a.kept) a.p.0 v.0 f.0 (omega (arith, v.1)) (omega (arith, f.1)) (eq-eqb _ _ c.if-side-eq1.true)
    c.earn.ensures c.spend.ensures

pub returns-else-side-eq1 : goal.returns-else-side-eq1
returns-else-side-eq1 c =
    let a : _ = c.args in
    let f : _ = over-most a.minutes (price_offset * a.p.0) worth_most c.requires.2 c.worth.ensures c.over-offset.ensures in
    let v : _ = over-most a.minutes (value_of a.powers a.kept) (blocks_most * worth_most) c.requires.2 c.blocks_worth.ensures c.over-value.ensures in
    trade-producing a.side a.minutes (value_of a.powers a.kept) a.p.0 v.0 f.0 (omega (arith, v.1)) (omega (arith, f.1)) (ne_eqb _ _ c.if-side-eq1.false)
    c.earn-else-side-eq1.ensures c.spend-else-side-eq1.ensures
