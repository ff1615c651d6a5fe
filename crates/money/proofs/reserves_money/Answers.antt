-- The eight, spent at once.
use Prim.Native.Nat.{◌*◌}
use native.Mathlib.Omega.{arith}
use Rattle.money.specs.Bounds.{worth_most, reserves_most}
use Rattle.money.specs.Entries.{spent-as}
use Rattle.money.specs.Worth.{over-most}
use Rattle.money.specs.Costs.{eight_cost}
use Rattle.money.proofs.reserves_money.Goals as goal

pub spend-requires : goal.spend-requires
spend-requires c =
    let a : _ = c.args in
    let e : _ = over-most a.minutes (eight_cost a.b a.a) (8 * worth_most) c.requires.1 c.reserves_rate.ensures c.over.ensures in
    omega (arith, c.requires.0.debit, e.1)

pub returns : goal.returns
returns c =
    let a : _ = c.args in
    let e : _ = over-most a.minutes (eight_cost a.b a.a) (8 * worth_most) c.requires.1 c.reserves_rate.ensures c.over.ensures in
    spent-as reserves_most c.spend.ensures e.0 e.1
