-- Where nothing is left, nothing is left further back.
use Rattle.std.proofs.Common.{◌≡◌, ◌+◌, ◌-◌, arith}
use Rattle.trajectories.specs.Trajectories.{before-stop}
use Rattle.trajectories.proofs.add_before.Goals as goal

pub returns-then-left-eq0 : goal.returns-then-left-eq0
returns-then-left-eq0 c =
    let t : c.loop-t.t - 1 + 1 ≡ c.loop-t.t = omega arith in
    before-stop c.requires (omega arith) (omega arith) c.loop-t.invariant (rw t at c.left_after-left.ensures.0) c.if-left-eq0.true
