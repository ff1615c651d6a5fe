use mathlib.Core.Path.{refl}
use Prim.Native.Nat.{◌*◌}
use native.Mathlib.Omega.{arith}
use Rattle.pen.specs.Runs.{room_at}
use Rattle.money.specs.Bounds.{cell_most, device_most}
use Rattle.records.specs.Views.{most_devices}
use Rattle.money.specs.Entries.{spare-after, spare-room}
use Rattle.money.specs.Unbroken.{part_of}
use Rattle.completion_size.specs.Size.{device_width}
use Rattle.progress.specs.Advances.{advances-none, advances-next, advances-done}
use Rattle.interval_completions.specs.Steps.{place_of, cell-of, floors-of, device-fits, ruled, cell-paid, held_of, device-done}
use Rattle.interval_completions.proofs.complete_devices.Goals as goal

pub loop-i-init : goal.loop-i-init
loop-i-init c =
    advances-none _ _ device_width device_most _ _ c.requires.ready.0

pub overflow_mul-a : goal.overflow_mul-a
overflow_mul-a c =
    omega (arith, (part_of c.requires.unbroken.0.ready c.loop-i.i _ c.loop-i-test.true refl).small)

pub overflow_add-a : goal.overflow_add-a
overflow_add-a c =
    omega (arith, (part_of c.requires.unbroken.0.ready c.loop-i.i _ c.loop-i-test.true refl).small)

pub overflow_add-k : goal.overflow_add-k
overflow_add-k c =
    omega (arith, (part_of c.requires.unbroken.0.ready c.loop-i.i _ c.loop-i-test.true refl).small, c.requires.unbroken.1)

pub offset_bounds-powers-k : goal.offset_bounds-powers-k
offset_bounds-powers-k c =
    omega (arith, (part_of c.requires.unbroken.0.ready c.loop-i.i _ c.loop-i-test.true refl).small, c.requires.unbroken.1)

pub bounds-powers-k : goal.bounds-powers-k
bounds-powers-k c =
    (place_of c.requires.unbroken.0 c.args.t c.loop-i.i _ c.requires.unbroken.1 c.loop-i-test.true
    refl).in-powers

pub cell_at-cell-requires : goal.cell_at-cell-requires
cell_at-cell-requires c =
    (place_of c.requires.unbroken.0 c.args.t c.loop-i.i _ c.requires.unbroken.1 c.loop-i-test.true
    refl).in_cells

pub offset_bounds-settings-a : goal.offset_bounds-settings-a
offset_bounds-settings-a c =
    omega (arith, (part_of c.requires.unbroken.0.ready c.loop-i.i _ c.loop-i-test.true refl).small)

pub slice_bounds-choose-end : goal.slice_bounds-choose-end
slice_bounds-choose-end c =
    (part_of c.requires.unbroken.0.ready c.loop-i.i _ c.loop-i-test.true refl).in-settings

pub choose-x-requires : goal.choose-x-requires
choose-x-requires c = (
  c.loop-i-test.true,
  cell-of c.requires.unbroken.0 c.args.t c.loop-i.i _ c.requires.unbroken.1 c.loop-i-test.true refl
      c.cell_at-cell.ensures,
  floors-of c.requires.unbroken.0 c.args.t c.loop-i.i _ c.requires.unbroken.1 c.loop-i-test.true refl
      c.cell_at-cell.ensures,
)

pub cell_at-cell-requires-in-loop-i : goal.cell_at-cell-requires-in-loop-i
cell_at-cell-requires-in-loop-i c =
    (place_of c.requires.unbroken.0 c.args.t c.loop-i.i _ c.requires.unbroken.1 c.loop-i-test.true refl).in_cells

pub setting_at-setting-requires : goal.setting_at-setting-requires
setting_at-setting-requires c =
    (place_of c.requires.unbroken.0 c.args.t c.loop-i.i _ c.requires.unbroken.1 c.loop-i-test.true refl).in-settings

pub cell_money-money-requires : goal.cell_money-money-requires
cell_money-money-requires c =
    let known : _ = c.requires.unbroken.0.ready.case_rows.few-devices in (
      c.loop-i-test.true,
      spare-room 0 (spare-after (most_devices * device_most) (c.loop-i.i * device_most) 0 c.requires.ready.2 c.loop-i.invariant.entered
          (omega (arith, known, c.loop-i-test.true))),
      ruled c.requires.unbroken.0 c.args.t c.loop-i.i _ c.requires.unbroken.1 c.loop-i-test.true
          refl c.cell_at-cell.ensures c.choose-x.ensures c.cell_at-cell-in-loop-i.ensures c.setting_at-setting.ensures c.requires.unbroken.2,
    )

pub reactive_reserves_money-money-requires : goal.reactive_reserves_money-money-requires
reactive_reserves_money-money-requires c =
    let known : _ = c.requires.unbroken.0.ready.case_rows.few-devices in
    let left : _ = spare-after (most_devices * device_most) (c.loop-i.i * device_most) device_most c.requires.ready.2 c.loop-i.invariant.entered (omega (arith, known, c.loop-i-test.true)) in (
      spare-room 0 (spare-after device_most cell_most 0 left (cell-paid c.requires.unbroken.0 c.args.t c.loop-i.i _ c.requires.unbroken.1 c.loop-i-test.true
          refl c.cell_at-cell.ensures c.choose-x.ensures c.cell_at-cell-in-loop-i.ensures c.setting_at-setting.ensures c.requires.unbroken.2
          c.cell_money-money.ensures) (omega arith)),
      held_of c.requires.unbroken.0 c.args.t c.loop-i.i _ c.requires.unbroken.1 c.loop-i-test.true
          refl c.cell_at-cell.ensures c.choose-x.ensures c.cell_at-cell-in-loop-i.ensures c.setting_at-setting.ensures c.requires.unbroken.2,
    )

pub put_choice-pen-requires : goal.put_choice-pen-requires
put_choice-pen-requires c = (
  c.loop-i.invariant.pushes.ready,
  room_at c.loop-i.i _ device_width c.loop-i-test.true c.loop-i.invariant.pushes c.requires.ready.1,
  device-fits c.requires.unbroken.0 c.args.t
      c.loop-i.i _ c.requires.unbroken.1 c.loop-i-test.true refl c.cell_at-cell.ensures c.choose-x.ensures,
)

pub loop-i-preserved : goal.loop-i-preserved
loop-i-preserved c =
    advances-next _ _ device_width device_most c.loop-i.i c.loop-i.invariant
    (device-done c.requires.unbroken.0 c.args.t c.loop-i.i _ c.requires.unbroken.1 c.loop-i-test.true refl c.cell_at-cell.ensures
    c.choose-x.ensures c.cell_at-cell-in-loop-i.ensures c.setting_at-setting.ensures c.requires.unbroken.2 c.cell_money-money.ensures
    c.reactive_reserves_money-money.ensures c.put_choice-pen.ensures)

pub shape_of-buf : goal.shape_of-buf
shape_of-buf c =
    c.loop-i.invariant.pushes.long

pub returns : goal.returns
returns c =
    advances-done _ _ device_width device_most c.loop-i.i _ c.loop-i.auto.i-end c.loop-i-test.false c.loop-i.invariant
