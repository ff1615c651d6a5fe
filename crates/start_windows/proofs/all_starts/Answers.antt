use native.Mathlib.Omega.{arith}
use mathlib.Core.Path.{◌≡◌}
use lib.ListN.{length}
use Rattle.start_windows.specs.Windows.{all_starts, starts_none, starts-next}
use Rattle.start_windows.proofs.all_starts.Goals as goal

pub loop-t-init : goal.loop-t-init
loop-t-init c = starts_none _ _

pub loop-t-preserved : goal.loop-t-preserved
loop-t-preserved c = starts-next _ _ c.loop-t.invariant c.started_at-sum.ensures

pub returns : goal.returns
unfolding all_starts
returns c = let e : c.loop-t.t ≡ length c.args.settings.now = omega arith in rw (← e) c.loop-t.invariant.total
