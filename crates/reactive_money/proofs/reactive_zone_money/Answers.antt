-- The two, spent at once, for whatever zone the record is of.
use native.Mathlib.Omega.{arith}
use Rattle.reactive_money.specs.Charges.{zone-minutes, up_small, down-small, zone-entered}
use Rattle.reactive_money.proofs.reactive_zone_money.Goals as goal

pub short_cost-up-requires : goal.short_cost-up-requires
short_cost-up-requires c = let w : _ = c.requires.1 in ((up_small w).0, (up_small w).1, zone-minutes w)

pub short_cost-down-requires : goal.short_cost-down-requires
short_cost-down-requires c = let w : _ = c.requires.1 in ((down-small w).0, (down-small w).1, zone-minutes w)

pub plus-requires : goal.plus-requires
plus-requires c = omega (arith, c.short_cost-up.ensures.1, c.short_cost-down.ensures.1)

pub spend-requires : goal.spend-requires
spend-requires c =
    omega (arith, c.requires.0.debit, c.plus.ensures, c.short_cost-up.ensures.1, c.short_cost-down.ensures.1)

pub returns : goal.returns
returns c =
    let a : _ = c.args in
    zone-entered a.zone a.minutes a.qru.0 a.qrd.0 c.spend.ensures c.short_cost-up.ensures c.short_cost-down.ensures c.plus.ensures
