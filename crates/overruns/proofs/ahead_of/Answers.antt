use Rattle.overruns.specs.Energies.{spent-start, spent-none}
use Rattle.overruns.proofs.ahead_of.Goals as goal

pub loop-t-init : goal.loop-t-init
loop-t-init c = spent-start _ _ _

pub loop-t-preserved : goal.loop-t-preserved
loop-t-preserved c = spent-none _ _ _ c.if-w-starts.false c.loop-t.invariant
