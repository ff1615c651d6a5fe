use mathlib.Core.Path.{refl}
use Prim.Native.Nat.{◌*◌}
use native.Mathlib.Omega.{arith}
use Rattle.pen.specs.Runs.{room_at}
use Rattle.money.specs.Bounds.{overrun_cost_most, windows_cost_most}
use Rattle.money.specs.Unbroken.{part_of}
use Rattle.money.specs.Entries.{spare-after, spare-room}
use Rattle.completion_size.specs.Size.{overrun_width}
use Rattle.overrun_completions.specs.Fits.{windows-are}
use Rattle.progress.specs.Advances.{advances-none, advances-next, advances-done}
use Rattle.overrun_completions.specs.Steps.{powers-run, overrun-fits, overrun-of, overrun-done, windows-done}
use Rattle.overrun_completions.proofs.complete_windows.Goals as goal

pub overflow_mul-a : goal.overflow_mul-a
overflow_mul-a c = omega (arith, (part_of c.requires.unbroken.0.ready c.args.i _ c.requires.unbroken.1 refl).small)

pub overflow_add-e : goal.overflow_add-e
overflow_add-e c = omega (arith, (part_of c.requires.unbroken.0.ready c.args.i _ c.requires.unbroken.1 refl).small)

pub energies_at-n-requires : goal.energies_at-n-requires
energies_at-n-requires c = c.requires.unbroken.1

pub loop-w-init : goal.loop-w-init
loop-w-init c = advances-none _ _ overrun_width overrun_cost_most _ _ c.requires.ready.0

pub energy_at-requires : goal.energy_at-requires
energy_at-requires c = (
  c.requires.unbroken.1,
  omega (
    arith,
    c.loop-w-test.true,
    c.energies_at-n.ensures,
    (c.requires.unbroken.0.ready.case_rows.counted c.args.i
        c.requires.unbroken.1).few-energies,
  ),
)

pub offset_bounds-powers-a : goal.offset_bounds-powers-a
offset_bounds-powers-a c = omega (arith, (part_of c.requires.unbroken.0.ready c.args.i _ c.requires.unbroken.1 refl).small)

pub slice_bounds-overrun-end : goal.slice_bounds-overrun-end
slice_bounds-overrun-end c = (part_of c.requires.unbroken.0.ready c.args.i _ c.requires.unbroken.1 refl).in-powers

pub overrun-over-requires : goal.overrun-over-requires
overrun-over-requires c = powers-run c.requires.unbroken.0 c.args.i _ c.requires.unbroken.1 refl

pub overrun_money-money-requires : goal.overrun_money-money-requires
overrun_money-money-requires c =
    let few : _ = (c.requires.unbroken.0.ready.case_rows.counted c.args.i c.requires.unbroken.1).few-energies in (
      spare-room 0 (spare-after windows_cost_most (c.loop-w.w * overrun_cost_most) 0 c.requires.ready.2 c.loop-w.invariant.entered
          (omega (arith, c.loop-w-test.true, c.energies_at-n.ensures, few))),
      overrun-of c.requires.unbroken.0 c.args.i _ c.requires.unbroken.1 refl c.loop-w.w
          (omega (arith, c.loop-w-test.true, c.energies_at-n.ensures)) c.energy_at.ensures c.overrun-over.ensures,
    )

pub put_overrun-pen-requires : goal.put_overrun-pen-requires
put_overrun-pen-requires c =
    let known : _ = windows-are c.requires.unbroken.0.ready.case_rows c.args.i c.requires.unbroken.1 in (
      c.loop-w.invariant.pushes.ready,
      room_at c.loop-w.w _ overrun_width (omega (arith, c.loop-w-test.true, c.energies_at-n.ensures, known)) c.loop-w.invariant.pushes c.requires.ready.1,
      overrun-fits c.requires.unbroken.0 c.args.i _ c.requires.unbroken.1 refl c.loop-w.w
          (omega (arith, c.loop-w-test.true, c.energies_at-n.ensures)) c.energy_at.ensures c.overrun-over.ensures,
    )

pub loop-w-preserved : goal.loop-w-preserved
loop-w-preserved c =
    advances-next _ _ overrun_width overrun_cost_most c.loop-w.w c.loop-w.invariant
    (overrun-done c.requires.unbroken.0 c.args.i _ c.requires.unbroken.1 refl c.loop-w.w
    (omega (arith, c.loop-w-test.true, c.energies_at-n.ensures)) c.energy_at.ensures c.overrun-over.ensures
    c.overrun_money-money.ensures c.put_overrun-pen.ensures)

pub shape_of-buf : goal.shape_of-buf
shape_of-buf c = c.loop-w.invariant.pushes.long

pub returns : goal.returns
returns c =
    windows-done c.requires.unbroken.0 c.args.i _ c.requires.unbroken.1 refl c.energies_at-n.ensures
    (advances-done _ _ overrun_width overrun_cost_most c.loop-w.w c.energies_at-n.result c.loop-w.auto.w-end c.loop-w-test.false c.loop-w.invariant)
