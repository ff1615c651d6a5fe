-- Where nothing is left, nothing is left further on.
use Rattle.std.proofs.Common.{arith}
use Rattle.trajectories.specs.Trajectories.{after_stop}
use Rattle.trajectories.proofs.add_after.Goals as goal

pub returns-then-left-eq0 : goal.returns-then-left-eq0
returns-then-left-eq0 c = after_stop c.requires (omega arith) (omega arith) c.loop-t.invariant c.left_after-left.ensures.0 c.if-left-eq0.true
