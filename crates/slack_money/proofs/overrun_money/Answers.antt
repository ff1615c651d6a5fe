-- Below 2^44 kW·min at a price below 2^20.
use native.Mathlib.Omega.{arith}
use Rattle.slack_money.specs.Charges.{overrun-price, overrun-energy, overrun-cost, overrun-entered}
use Rattle.slack_money.proofs.overrun_money.Goals as goal

pub priced-requires : goal.priced-requires
priced-requires c = omega (arith, overrun-price c.requires.1, overrun-energy c.requires.1)

pub spend-requires : goal.spend-requires
spend-requires c = omega (
  arith,
  c.requires.0.debit,
  overrun-cost c.args.e.0 c.args.price (overrun-energy c.requires.1)
      (overrun-price c.requires.1) c.priced.ensures,
)

pub returns : goal.returns
returns c = let a : _ = c.args in
    overrun-entered a.price a.e.0 c.spend.ensures c.priced.ensures
    (overrun-cost a.e.0 a.price (overrun-energy c.requires.1) (overrun-price c.requires.1) c.priced.ensures)
