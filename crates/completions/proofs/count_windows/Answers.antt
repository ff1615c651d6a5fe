use native.Mathlib.Omega.{arith}
use Rattle.completions.specs.Windows.{count_none, count_next, count-done}
use Rattle.completions.proofs.count_windows.Goals as goal

pub loop-i-init : goal.loop-i-init
loop-i-init c = count_none c.args.devices.now

pub overflow_add-n : goal.overflow_add-n
overflow_add-n c =
    omega (
      arith,
      c.energies_at.ensures,
      c.requires.each c.loop-i.i c.loop-i-test.true,
      c.requires.few,
      c.loop-i.invariant.small,
    )

pub loop-i-preserved : goal.loop-i-preserved
loop-i-preserved c =
    count_next c.args.devices.now c.loop-i.i c.loop-i.invariant c.energies_at.ensures (c.requires.each c.loop-i.i c.loop-i-test.true)

pub returns : goal.returns
returns c = count-done c.args.devices.now c.loop-i.i _ c.loop-i.auto.i-end c.loop-i-test.false c.loop-i.invariant
