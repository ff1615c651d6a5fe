-- Its devices, its zones and its mismatches, one behind the other.
use mathlib.Core.Path.{refl}
use Prim.Native.Nat.{◌+◌, ◌*◌}
use native.Mathlib.Omega.{arith}
use lib.ListN.{length}
use Rattle.records.specs.Ranged.{half-small}
use Rattle.records.specs.Views.{most_devices}
use Rattle.mismatches.specs.Sides.{powered, linked}
use Rattle.reactive_mismatches.specs.Settled.{settled}
use Rattle.model.specs.Editions.{most_zones}
use Rattle.money.specs.Bounds.{device_most, kinds_most, mismatches_most, interval_most}
use Rattle.money.specs.Entries.{spare-after, spare-less}
use Rattle.completion_writer.specs.Whole.{zones-room, bars-room, reactive-bars-room}
use Rattle.interval_completions.specs.Steps.{mismatches-fit, interval-of, reactive-mismatches-fit, reactive-interval-of, interval-done}
use Rattle.interval_completions.proofs.complete_interval.Goals as goal

pub overflow_mul-minutes : goal.overflow_mul-minutes
overflow_mul-minutes c =
    omega (arith, half-small c.requires.unbroken.0.ready.case_rows c.args.t)

pub complete_devices-a-requires : goal.complete_devices-a-requires
complete_devices-a-requires c = record {
  unbroken = (c.requires.unbroken.0, c.requires.unbroken.1, refl);
  ready = (c.requires.ready.0, omega (arith, c.requires.ready.1), spare-less interval_most (most_devices * device_most) c.requires.ready.2 (omega arith));
}

pub complete_zones-b-requires : goal.complete_zones-b-requires
complete_zones-b-requires c =
    let d : _ = length c.args.devices.now in
    let v : _ = c.complete_devices-a.ensures in record {
      unbroken = (c.requires.unbroken.0, c.requires.unbroken.1, refl);
      ready = (
        v.pushes.ready,
        zones-room c.args.front.edition d (length c.args.zones.now) v.pushes c.requires.ready.1,
        spare-after interval_most (d * device_most) (most_zones * kinds_most) c.requires.ready.2 v.entered (omega (arith, c.requires.unbroken.0.ready.case_rows.few-devices)),
      );
    }

pub mismatches-real-requires : goal.mismatches-real-requires
mismatches-real-requires c =
    (powered c.requires.unbroken.0.ready c.args.t c.requires.unbroken.1, linked c.requires.unbroken.0.ready c.args.t c.requires.unbroken.1)

pub reactive_mismatches-reactive-requires : goal.reactive_mismatches-reactive-requires
reactive_mismatches-reactive-requires c =
    settled c.requires.unbroken.0.ready c.args.t c.requires.unbroken.1

pub mismatches_money-money-requires : goal.mismatches_money-money-requires
mismatches_money-money-requires c =
    let known : _ = c.requires.unbroken.0.ready.case_rows in
    let d : _ = length c.args.devices.now in
    let z : _ = length c.args.zones.now in
    let s : _ = spare-after interval_most (d * device_most) (most_zones * kinds_most + mismatches_most) c.requires.ready.2 c.complete_devices-a.ensures.entered
    (omega (arith, known.few-devices)) in (
      spare-after (most_zones * kinds_most + mismatches_most) (z * kinds_most) mismatches_most s c.complete_zones-b.ensures.entered (omega (arith, known.few-zones)),
      interval-of c.requires.unbroken.0 c.args.t c.requires.unbroken.1 c.mismatches-real.ensures refl,
      reactive-interval-of c.requires.unbroken.0 c.args.t c.requires.unbroken.1 c.reactive_mismatches-reactive.ensures refl,
    )

pub put_mismatches-pen-requires : goal.put_mismatches-pen-requires
put_mismatches-pen-requires c =
    let d : _ = length c.args.devices.now in
    let z : _ = length c.args.zones.now in
    let fits : _ = mismatches-fit c.requires.unbroken.0 c.args.t c.requires.unbroken.1 c.mismatches-real.ensures in (
      c.complete_zones-b.ensures.pushes.ready,
      bars-room c.args.front.edition d z c.complete_devices-a.ensures.pushes
          c.complete_zones-b.ensures.pushes c.requires.ready.1,
      fits.0,
      fits.1,
    )

pub put_reactive_mismatches-pen-requires : goal.put_reactive_mismatches-pen-requires
put_reactive_mismatches-pen-requires c =
    let d : _ = length c.args.devices.now in
    let z : _ = length c.args.zones.now in
    let fits : _ = reactive-mismatches-fit c.requires.unbroken.0 c.args.t c.requires.unbroken.1 c.reactive_mismatches-reactive.ensures in (
      c.put_mismatches-pen.ensures.ready,
      reactive-bars-room c.args.front.edition d z c.complete_devices-a.ensures.pushes
          c.complete_zones-b.ensures.pushes c.requires.ready.1 c.put_mismatches-pen.ensures,
      fits.0,
      fits.1,
    )

-- what the four writes leave of the buffer's length
pub shape_of-buf : goal.shape_of-buf
shape_of-buf c =
    omega (
      arith,
      c.put_reactive_mismatches-pen.ensures.long,
      c.put_mismatches-pen.ensures.long,
      c.complete_zones-b.ensures.pushes.long,
      c.complete_devices-a.ensures.pushes.long,
    )

pub returns : goal.returns
returns c =
    interval-done c.requires.unbroken.0 c.args.t c.requires.unbroken.1 c.mismatches-real.ensures c.reactive_mismatches-reactive.ensures refl
    c.complete_devices-a.ensures c.complete_zones-b.ensures c.mismatches_money-money.ensures
    c.put_mismatches-pen.ensures c.put_reactive_mismatches-pen.ensures
