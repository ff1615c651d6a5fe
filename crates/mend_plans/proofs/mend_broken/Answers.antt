-- By the place of the breach.
use mathlib.Core.Path.{refl}
use native.Mathlib.Omega.{arith}
use Rattle.mend_plans.specs.Tries.{no-interval, no-device, placed, of-cell}
use Rattle.mend_plans.proofs.mend_broken.Goals as goal
use Rattle.mend_plans.proofs.mend_broken.Goals.{then-b-eq0-via-then-b-eq0, then-b-eq0-via-else-b-eq0+then-b-eq0-2}

pub returns-then-b-eq0 : goal.returns-then-b-eq0
returns-then-b-eq0 c =
    let a = c.args in
    elim c.then-b-eq0.branch [
      | then-b-eq0-via-then-b-eq0 w ↦ no-interval a.front a.halves.now a.zones.now a.minima.now a.devices.now a.cells.now a.settings.now a.b w.if-b-eq0.true
      | then-b-eq0-via-else-b-eq0+then-b-eq0-2 w ↦ no-device a.front a.halves.now a.zones.now a.minima.now a.devices.now a.cells.now a.settings.now a.b
          (omega arith) w.if-b-eq0-2.true
    ]

pub mend_at-requires : goal.mend_at-requires
mend_at-requires c =
    let h : _ = placed c.args.front c.args.halves.now c.args.zones.now c.args.minima.now c.args.devices.now c.args.cells.now c.args.settings.now
    c.args.b c.requires.1 (omega arith) (omega arith) in
    (c.requires.0, h.1, h.0)

pub returns : goal.returns
returns c =
    of-cell c.args.front c.args.halves.now c.args.zones.now c.args.minima.now c.args.devices.now c.args.cells.now c.args.settings.now c.args.b
    refl refl (omega (arith, c.if-b-eq0.false)) (omega (arith, c.if-b-eq0-2.false)) c.mend_at.ensures
