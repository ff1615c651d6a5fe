-- By the interval.
use mathlib.Core.Path.{refl}
use native.Mathlib.Omega.{arith}
use Rattle.mend_plans.specs.Tries.{parts-small, sooner, later}
use Rattle.mend_plans.proofs.mend_at.Goals as goal

pub overflow_mul-a : goal.overflow_mul-a
overflow_mul-a c =
    omega (
      arith,
      parts-small c.args.front c.args.halves.now c.args.zones.now c.args.minima.now c.args.devices.now c.args.cells.now
          c.args.settings.now c.requires.0 c.args.i c.requires.1,
    )

pub alone-requires : goal.alone-requires
alone-requires c = (c.requires.0, c.requires.1, refl, omega (arith, c.requires.2))

pub returns-then-t-eq0 : goal.returns-then-t-eq0
returns-then-t-eq0 c =
    sooner c.args.front c.args.halves.now c.args.zones.now c.args.minima.now c.args.devices.now c.args.cells.now c.args.settings.now c.args.i
    c.if-t-eq0.true c.alone.ensures

pub returns : goal.returns
returns c =
    later c.args.front c.args.halves.now c.args.zones.now c.args.minima.now c.args.devices.now c.args.cells.now c.args.settings.now c.args.t
    c.args.i c.if-t-eq0.false c.both.ensures
