-- The front, the intervals, the overruns and the surplus, one behind the other, in a buffer that is long enough.
use mathlib.Core.Path.{◌∙◌}
use Prim.Native.Nat.{◌*◌}
use native.Mathlib.Omega.{arith}
use lib.ListN.{length}
use mir.Syntax.{w64}
use mir.ValLaws.{to_z-of_z}
use Rattle.records.specs.Views.{most_devices, most_intervals}
use Rattle.money.specs.Bounds.{interval_most, windows_cost_most, day_most, day-fits}
use Rattle.money.specs.Entries.{spare-none, spare-after, spare-less, balance-of}
use Rattle.reactive_money.specs.Here.{day-whole}
use Rattle.completions.specs.Whole.{countable, front-room, intervals-room, overruns-room, surplus-room, whole-done}
use Rattle.completions.proofs.complete.Goals as goal

pub overflow_cast-n : goal.overflow_cast-n
overflow_cast-n c =
    omega (arith, c.requires.0.ready.case_rows.few-devices)

pub overflow_cast-m : goal.overflow_cast-m
overflow_cast-m c =
    omega (arith, c.requires.0.ready.case_rows.few-intervals)

pub overflow_cast-zones : goal.overflow_cast-zones
overflow_cast-zones c =
    omega (arith, c.requires.0.ready.case_rows.few-zones)

pub put_front-pen-requires : goal.put_front-pen-requires
put_front-pen-requires c =
    let known : _ = c.requires.0.ready.case_rows in
    (record { few = omega arith; small = omega arith }, front-room known c.args.buf.now c.requires.2, countable known c.requires.1)

pub complete_intervals-day-requires : goal.complete_intervals-day-requires
complete_intervals-day-requires c = record {
  unbroken = c.requires.0;
  ready = (
    c.put_front-pen.ensures.ready,
    intervals-room c.requires.0.ready.case_rows c.args.buf.now c.requires.2 c.put_front-pen.ensures,
    spare-less day_most (most_intervals * interval_most) (spare-none c.empty_ledger-money.ensures) (omega arith),
  );
}

pub complete_overruns-all-requires : goal.complete_overruns-all-requires
complete_overruns-all-requires c =
    let known : _ = c.requires.0.ready.case_rows in
    let d : _ = c.complete_intervals-day.ensures in record {
      unbroken = c.requires.0;
      ready = (
        d.pushes.ready,
        overruns-room known c.args.buf.now c.requires.2 c.put_front-pen.ensures d.pushes,
        spare-after day_most
            (length c.args.halves.now * interval_most) (most_devices * windows_cost_most) (spare-none c.empty_ledger-money.ensures) d.entered
            (omega (arith, known.few-intervals)),
      );
    }

pub balance-z-requires : goal.balance-z-requires
balance-z-requires c =
    let d : _ = day-whole c.requires.0 c.complete_intervals-day.ensures.entered c.complete_overruns-all.ensures.entered in
    (omega (arith, d.credit, c.empty_ledger-money.ensures.credits, day-fits), omega (arith, d.debit, c.empty_ledger-money.ensures.debits, day-fits))

pub put_surplus-end-requires : goal.put_surplus-end-requires
put_surplus-end-requires c =
    let v : _ = c.complete_overruns-all.ensures in (
      v.pushes.ready,
      surplus-room c.requires.0.ready.case_rows c.args.buf.now c.requires.2 c.put_front-pen.ensures
          c.complete_intervals-day.ensures.pushes v.pushes,
    )

pub finish-requires : goal.finish-requires
finish-requires c =
    let v : _ = c.put_surplus-end.ensures in
    let room : _ = surplus-room c.requires.0.ready.case_rows c.args.buf.now c.requires.2 c.put_front-pen.ensures
    c.complete_intervals-day.ensures.pushes c.complete_overruns-all.ensures.pushes in
    (v.ready, omega (arith, room, v.moved, v.long))

pub shape_of-buf : goal.shape_of-buf
shape_of-buf c =
    c.finish.ensures.long ∙ c.put_surplus-end.ensures.long
    ∙ c.complete_overruns-all.ensures.pushes.long ∙ c.complete_intervals-day.ensures.pushes.long
    ∙ c.put_front-pen.ensures.long

pub returns : goal.returns
returns c =
    let d : _ = day-whole c.requires.0 c.complete_intervals-day.ensures.entered c.complete_overruns-all.ensures.entered in
    whole-done c.requires.0.ready.case_rows c.args.settings.now _
    (to_z-of_z w64 c.balance-z.result (record { sfits = c.balance-z.type_inv }) ∙ c.balance-z.ensures
    ∙ balance-of day_most c.empty_ledger-money.ensures d)
    c.put_front-pen.ensures c.complete_intervals-day.ensures.pushes c.complete_overruns-all.ensures.pushes
    c.put_surplus-end.ensures c.finish.ensures
