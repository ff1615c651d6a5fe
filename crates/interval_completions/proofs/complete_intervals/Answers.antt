use Prim.Native.Nat.{◌*◌}
use native.Mathlib.Omega.{arith}
use lib.ListN.{length}
use Rattle.pen.specs.Runs.{room_at}
use Rattle.records.specs.Views.{most_intervals}
use Rattle.money.specs.Bounds.{interval_most}
use Rattle.money.specs.Entries.{spare-after}
use Rattle.completion_size.specs.Size.{interval_width}
use Rattle.progress.specs.Advances.{advances-none, advances-next, advances-done}
use Rattle.interval_completions.proofs.complete_intervals.Goals as goal

pub loop-t-init : goal.loop-t-init
loop-t-init c =
    let r : _ = c.args in
    advances-none _ _ (interval_width r.front.edition (length r.devices.now) (length r.zones.now)) interval_most _ _ c.requires.ready.0

pub complete_interval-q-requires : goal.complete_interval-q-requires
complete_interval-q-requires c =
    let r : _ = c.args in
    let few : _ = c.requires.unbroken.ready.case_rows.few-intervals in record {
      unbroken = (c.requires.unbroken, c.loop-t-test.true);
      ready = (
        c.loop-t.invariant.pushes.ready,
        room_at c.loop-t.t _
            (interval_width r.front.edition (length r.devices.now) (length r.zones.now)) c.loop-t-test.true c.loop-t.invariant.pushes c.requires.ready.1,
        spare-after (most_intervals * interval_most) (c.loop-t.t * interval_most) interval_most c.requires.ready.2 c.loop-t.invariant.entered
            (omega (arith, c.loop-t-test.true, few)),
      );
    }

pub loop-t-preserved : goal.loop-t-preserved
loop-t-preserved c =
    advances-next _ _ _ interval_most c.loop-t.t c.loop-t.invariant c.complete_interval-q.ensures

pub shape_of-buf : goal.shape_of-buf
shape_of-buf c = c.loop-t.invariant.pushes.long

pub returns : goal.returns
returns c = advances-done _ _ _ interval_most c.loop-t.t _ c.loop-t.auto.t-end c.loop-t-test.false c.loop-t.invariant
