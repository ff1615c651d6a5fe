use Rattle.bit_copier.specs.Moves.{set_after, times_none, times_more}
use Rattle.bit_copier.proofs.copy_each.Goals as goal

pub loop-init : goal.loop-init
loop-init g c = times_none _ c.requires.1.0

pub loop-preserved : goal.loop-preserved
loop-preserved g c = times_more _ c.loop.invariant (c.requires.1.1.1 _ _ _ _ (set_after c.loop.invariant) c.step-t.ensures)
