-- The on cost of the interval's minutes, where the device is on.
use native.Mathlib.Omega.{arith}
use Rattle.money.specs.Bounds.{on_most}
use Rattle.money.specs.Entries.{spent-as}
use Rattle.money.specs.Costs.{on-cost}
use Rattle.money.proofs.on_money.Goals as goal

pub spend-requires : goal.spend-requires
spend-requires c = let a : _ = c.args in
    omega (
      arith,
      c.requires.0.debit,
      (on-cost a.rate a.on a.minutes c.requires.1 c.requires.3
          c.cost_over.ensures c.due.ensures.0 c.due.ensures.1).1,
    )

pub returns : goal.returns
returns c = let a : _ = c.args in
    let e : _ = on-cost a.rate a.on a.minutes c.requires.1 c.requires.3
    c.cost_over.ensures c.due.ensures.0 c.due.ensures.1 in
    spent-as on_most c.spend.ensures e.0 e.1
