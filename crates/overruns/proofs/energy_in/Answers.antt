use Rattle.overruns.specs.Energies.{spent-next, spent-rest}
use Rattle.overruns.proofs.energy_in.Goals as goal

pub returns-then-w-starts : goal.returns-then-w-starts
returns-then-w-starts c = spent-rest _ _ _ c.requires c.loop-t.t c.loop-t-test.true c.if-w-starts.true c.loop-t.invariant

pub loop-t-preserved : goal.loop-t-preserved
loop-t-preserved c = spent-next _ _ _ c.requires c.loop-t.t c.loop-t-test.true c.loop-t.invariant c.minutes_in-minutes.ensures.1 c.over.ensures
    c.minutes_in-minutes.ensures.0 c.plus-energy.ensures
