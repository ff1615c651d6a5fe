use mathlib.Core.Path.{refl}
use Prim.Native.Nat.{◌*◌}
use native.Mathlib.Omega.{arith}
use Rattle.pen.specs.Runs.{room_at}
use Rattle.zone_totals.specs.Sums.{zoned}
use Rattle.reactive_mismatches.specs.Settled.{settled}
use Rattle.model.specs.Editions.{most_zones}
use Rattle.money.specs.Bounds.{zone_most, kinds_most}
use Rattle.money.specs.Entries.{spare-after, spare-room}
use Rattle.completion_size.specs.Size.{zone_width}
use Rattle.completion_writer.specs.Whole.{six-room, two-room}
use Rattle.progress.specs.Advances.{advances-none, advances-next, advances-done}
use Rattle.interval_completions.specs.Steps.{in-minima, next_small, shares-small, zone-fits, two_fits, zone-of, zone-paid, reactive-zone-of, zone-done}
use Rattle.interval_completions.proofs.complete_zones.Goals as goal

pub loop-z-init : goal.loop-z-init
loop-z-init c =
    advances-none _ _ (zone_width c.args.front.edition) kinds_most _ _ c.requires.ready.0

pub overflow_mul-z : goal.overflow_mul-z
overflow_mul-z c = omega (arith, next_small c.requires.unbroken.0 c.args.t c.requires.unbroken.1 c.loop-z.z _ c.loop-z-test.true refl)

pub overflow_add-z : goal.overflow_add-z
overflow_add-z c = omega (arith, next_small c.requires.unbroken.0 c.args.t c.requires.unbroken.1 c.loop-z.z _ c.loop-z-test.true refl)

pub minima_at-least-requires : goal.minima_at-least-requires
minima_at-least-requires c =
    in-minima c.requires.unbroken.0 c.args.t c.requires.unbroken.1 c.loop-z.z _ c.loop-z-test.true
    refl

pub shortfalls-six-requires : goal.shortfalls-six-requires
shortfalls-six-requires c = (
  shares-small c.requires.unbroken.0 c.args.t c.requires.unbroken.1 c.loop-z.z _ c.loop-z-test.true refl
      c.zone_at-zone.ensures,
  zoned c.requires.unbroken.0.ready c.args.t c.requires.unbroken.1,
  omega (arith, c.loop-z-test.true, c.requires.unbroken.0.ready.case_rows.few-zones),
)

pub reactive_shortfalls-two-requires : goal.reactive_shortfalls-two-requires
reactive_shortfalls-two-requires c =
    (settled c.requires.unbroken.0.ready c.args.t c.requires.unbroken.1, omega (arith, c.loop-z-test.true, c.requires.unbroken.0.ready.case_rows.few-zones))

pub zone_money-money-requires : goal.zone_money-money-requires
zone_money-money-requires c = (
  spare-room 0 (spare-after (most_zones * kinds_most) (c.loop-z.z * kinds_most) 0 c.requires.ready.2 c.loop-z.invariant.entered
      (omega (arith, c.loop-z-test.true, c.requires.unbroken.0.ready.case_rows.few-zones))),
  zone-of c.requires.unbroken.0 c.args.t c.requires.unbroken.1 c.loop-z.z _ c.loop-z-test.true refl c.zone_at-zone.ensures
      c.minima_at-least.ensures c.shortfalls-six.ensures c.reactive_shortfalls-two.ensures c.requires.unbroken.2,
)

pub reactive_zone_money-money-requires : goal.reactive_zone_money-money-requires
reactive_zone_money-money-requires c =
    let left : _ = spare-after (most_zones * kinds_most) (c.loop-z.z * kinds_most) kinds_most c.requires.ready.2 c.loop-z.invariant.entered
    (omega (arith, c.loop-z-test.true, c.requires.unbroken.0.ready.case_rows.few-zones)) in (
      spare-room 0 (spare-after kinds_most zone_most 0 left (zone-paid c.requires.unbroken.0 c.args.t c.requires.unbroken.1 c.loop-z.z _ c.loop-z-test.true
          refl c.zone_at-zone.ensures c.minima_at-least.ensures c.shortfalls-six.ensures c.reactive_shortfalls-two.ensures
          c.requires.unbroken.2 c.zone_money-money.ensures) (omega arith)),
      reactive-zone-of c.requires.unbroken.0 c.args.t c.requires.unbroken.1 c.loop-z.z _ c.loop-z-test.true refl
          c.zone_at-zone.ensures c.minima_at-least.ensures c.shortfalls-six.ensures c.reactive_shortfalls-two.ensures c.requires.unbroken.2,
    )

pub put_shortfalls-pen-requires : goal.put_shortfalls-pen-requires
put_shortfalls-pen-requires c =
    let e : _ = c.args.front.edition in (
      c.loop-z.invariant.pushes.ready,
      six-room e c.loop-z.z _ c.loop-z-test.true c.loop-z.invariant.pushes c.requires.ready.1,
      zone-fits c.requires.unbroken.0 c.args.t c.requires.unbroken.1 c.loop-z.z _ c.loop-z-test.true refl
          c.zone_at-zone.ensures c.minima_at-least.ensures c.shortfalls-six.ensures,
    )

pub put_reactive_shortfalls-pen-requires : goal.put_reactive_shortfalls-pen-requires
put_reactive_shortfalls-pen-requires c =
    let e : _ = c.args.front.edition in
    let put : _ = c.put_shortfalls-pen.ensures in
    let f : _ = two_fits c.requires.unbroken.0 c.args.t c.requires.unbroken.1 c.loop-z.z _ c.loop-z-test.true refl
    c.zone_at-zone.ensures c.minima_at-least.ensures c.shortfalls-six.ensures c.reactive_shortfalls-two.ensures in (
      put.ready,
      two-room e put (room_at c.loop-z.z _ (zone_width e) c.loop-z-test.true c.loop-z.invariant.pushes c.requires.ready.1),
      f.0,
      f.1,
    )

pub loop-z-preserved : goal.loop-z-preserved
loop-z-preserved c =
    advances-next _ _ (zone_width c.args.front.edition) kinds_most c.loop-z.z c.loop-z.invariant
    (zone-done c.requires.unbroken.0 c.args.t c.requires.unbroken.1 c.loop-z.z _ c.loop-z-test.true refl c.zone_at-zone.ensures
    c.minima_at-least.ensures c.shortfalls-six.ensures c.reactive_shortfalls-two.ensures c.requires.unbroken.2 c.zone_money-money.ensures
    c.reactive_zone_money-money.ensures c.put_shortfalls-pen.ensures c.put_reactive_shortfalls-pen.ensures)

pub shape_of-buf : goal.shape_of-buf
shape_of-buf c = c.loop-z.invariant.pushes.long

pub returns : goal.returns
returns c =
    advances-done _ _ (zone_width c.args.front.edition) kinds_most c.loop-z.z _ c.loop-z.auto.z-end c.loop-z-test.false c.loop-z.invariant
