use Rattle.start_windows.specs.Windows.{counted_none, counted-ahead}
use Rattle.start_windows.proofs.ahead_of.Goals as goal

pub loop-t-init : goal.loop-t-init
loop-t-init c = counted_none _ _ _ _

pub loop-t-preserved : goal.loop-t-preserved
loop-t-preserved c = counted-ahead _ _ _ _ c.loop-t.invariant c.if-w-starts.false
