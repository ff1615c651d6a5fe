-- The forced figures are computed first.
use Rattle.mend_tries.specs.Tries.{ready_of}
use Rattle.mend_tries.proofs.span_of.Goals as goal

pub span_at-requires : goal.span_at-requires
span_at-requires c = (
  ready_of c.args.front c.args.halves.now c.args.zones.now c.args.minima.now c.args.devices.now c.args.cells.now c.args.settings.now
      c.requires.0 c.force.ensures,
  c.requires.1,
  c.requires.2,
  c.requires.3,
)
