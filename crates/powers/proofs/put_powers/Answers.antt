use Rattle.std.proofs.Common.{arith, length}
use Rattle.std.proofs.Math.ListN.{length-take, length-drop}
use Rattle.numbers.specs.Parts.{next-part}
use Rattle.records.specs.Ranged.{room}
use Rattle.powers.specs.Fleet.{rampable-at, settled_at, cells_at, clock-at, forced-step}
use Rattle.powers.proofs.put_powers.Goals as goal

pub device_powers-requires : goal.device_powers-requires
device_powers-requires c =
    let p = c.requires.case_of in
    let h = c.loop-i in
    let l = c.loop-i-test.true in
    let d = c.ramping_at-r.ensures in
    let r = room p.0.rows p.1 h.i h.a l h.invariant.0 in
    let long = cells_at _ _ _ _ p.0 p.1 h.i h.a l h.invariant.0 d in (
      rampable-at _ _ _ _ p.0 p.1 h.i h.a l h.invariant.0 d,
      settled_at _ _ _ _ p.0 p.1 h.i h.a l h.invariant.0 d,
      clock-at _ _ _ _ p.0 p.1 h.i h.a l h.invariant.0 d p.2,
      simp (length-take, length-drop) (omega (arith, r, h.invariant.1.long, p.0.rows.cells-full)),
    )

pub loop-i-preserved : goal.loop-i-preserved
loop-i-preserved c =
    let p = c.requires.case_of in
    let h = c.loop-i in (
      omega (arith, next-part (length c.args.halves.now) h.i),
      forced-step _ _ _ _ p.0 p.1 h.i h.a c.loop-i-test.true h.invariant.0 c.ramping_at-r.ensures _ _ _ p.2 h.invariant.1 c.device_powers.ensures,
    )
