-- Start and stop costs, and the state's.
use native.Mathlib.Omega.{arith}
use Rattle.row_places.specs.Figures.{device_at, startcost_at, stopcost_at}
use Rattle.money.specs.Costs.{due-of, change-cost}
use Rattle.money.proofs.change_money.Goals as goal

pub spend-requires : goal.spend-requires
spend-requires c =
    let a : _ = c.args in let x : _ = due-of (startcost_at a.devices.now a.i) a.started c.startcost_at.ensures c.requires.2.start
    c.due-start.ensures in
    omega (arith, c.requires.1.debit, x.1)

pub spend-m-requires : goal.spend-m-requires
spend-m-requires c =
    let a : _ = c.args in let x : _ = due-of (startcost_at a.devices.now a.i) a.started c.startcost_at.ensures c.requires.2.start
    c.due-start.ensures in
    let y : _ = due-of (stopcost_at a.devices.now a.i) a.stopped c.stopcost_at.ensures c.requires.2.stop c.due-stop.ensures in
    omega (arith, c.requires.1.debit, c.spend.ensures.debits, x.1, y.1)

pub state_money-requires : goal.state_money-requires
state_money-requires c =
    let a : _ = c.args in let x : _ = due-of (startcost_at a.devices.now a.i) a.started c.startcost_at.ensures c.requires.2.start
    c.due-start.ensures in
    let y : _ = due-of (stopcost_at a.devices.now a.i) a.stopped c.stopcost_at.ensures c.requires.2.stop c.due-stop.ensures in (
      c.requires.0,
      record {
        credit = omega (arith, c.requires.1.credit, c.spend.ensures.credits, c.spend-m.ensures.credits);
        debit = omega (arith, c.requires.1.debit, c.spend.ensures.debits, c.spend-m.ensures.debits, x.1, y.1);
      },
      c.requires.5,
      c.requires.6,
    )

pub returns : goal.returns
returns c =
    let a : _ = c.args in let x : _ = due-of (startcost_at a.devices.now a.i) a.started c.startcost_at.ensures c.requires.2.start
    c.due-start.ensures in
    let y : _ = due-of (stopcost_at a.devices.now a.i) a.stopped c.stopcost_at.ensures c.requires.2.stop c.due-stop.ensures in
    change-cost (device_at a.devices.now a.i) a.started a.stopped a.state x.0 y.0 x.1 y.1 c.spend.ensures c.spend-m.ensures
    c.state_money.ensures
