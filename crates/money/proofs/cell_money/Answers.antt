-- The four entries, for whatever case the records are of.
use Prim.Native.Nat.{◌+◌}
use native.Mathlib.Omega.{arith}
use Rattle.row_places.specs.Figures.{device_at}
use Rattle.money.specs.Bounds.{reserves_most, trade_most, on_most}
use Rattle.money.specs.Entries.{room_after}
use Rattle.money.specs.Ruled as R
use Rattle.money.specs.Terms.{cell-entered}
use Rattle.money.proofs.cell_money.Goals as goal

pub reserves_money-reserved-requires : goal.reserves_money-reserved-requires
reserves_money-reserved-requires c = let w : _ = c.requires.2 in (c.requires.1, R.minutes-small w, R.amounts-small w, R.reserve-prices-small w, R.of-state w)

pub blocks_money-traded-requires : goal.blocks_money-traded-requires
blocks_money-traded-requires c =
    let w : _ = c.requires.2 in (
      room_after 0 reserves_most reserves_most c.requires.1 c.reserves_money-reserved.ensures (omega arith),
      R.power_small w,
      R.minutes-small w,
      R.four-priced w,
    )

pub on_money-running-requires : goal.on_money-running-requires
on_money-running-requires c =
    let w : _ = c.requires.2 in
    let r : _ = room_after 0 reserves_most reserves_most c.requires.1 c.reserves_money-reserved.ensures (omega arith) in (
      room_after reserves_most trade_most (reserves_most + trade_most) r c.blocks_money-traded.ensures (omega arith),
      omega
          (arith, c.oncost_at.ensures, (R.costs-small w).on),
      R.on-small w,
      R.minutes-small w,
    )

pub change_money-requires : goal.change_money-requires
change_money-requires c =
    let w : _ = c.requires.2 in
    let r : _ = room_after 0 reserves_most reserves_most c.requires.1 c.reserves_money-reserved.ensures (omega arith) in
    let s : _ = room_after reserves_most trade_most (reserves_most + trade_most) r c.blocks_money-traded.ensures (omega arith) in (
      c.requires.0,
      room_after (reserves_most + trade_most) on_most (reserves_most + trade_most + on_most) s c.on_money-running.ensures (omega arith),
      R.costs-small w,
      R.started-small w,
      R.stopped-small w,
      (R.state-small w).0,
      (R.state-small w).1,
    )

pub returns : goal.returns
returns c =
    let a : _ = c.args in
    cell-entered (device_at a.devices.now a.i) a.cell a.setting a.p.0 a.minutes a.x c.side_at.ensures c.oncost_at.ensures
    c.reserves_money-reserved.ensures c.blocks_money-traded.ensures c.on_money-running.ensures c.change_money.ensures
