-- The six, spent at once, for whatever zone the record is of.
use native.Mathlib.Omega.{arith}
use Rattle.slack_money.specs.Charges.{zone-minutes, six-small, zone-entered}
use Rattle.slack_money.proofs.zone_money.Goals as goal

pub six_cost-requires : goal.six_cost-requires
six_cost-requires c = (six-small c.requires.1, zone-minutes c.requires.1)

pub spend-requires : goal.spend-requires
spend-requires c = omega (arith, c.requires.0.debit, c.six_cost.ensures.1)

pub returns : goal.returns
returns c = let a : _ = c.args in zone-entered a.zone a.minutes a.x c.spend.ensures c.six_cost.ensures.0 c.six_cost.ensures.1
