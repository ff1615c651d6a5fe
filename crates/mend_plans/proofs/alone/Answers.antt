-- The first interval has none before it.
use mathlib.Core.Path.{◌∙◌}
use Rattle.mend_plans.specs.Tries.{lone-try}
use Rattle.mend_plans.proofs.alone.Goals as goal

pub returns : goal.returns
returns c =
    c.answer.ensures ∙ lone-try c.args.front c.args.halves.now c.args.zones.now c.args.minima.now c.args.devices.now c.args.cells.now
    c.args.settings.now c.args.i c.try_at-r.ensures
