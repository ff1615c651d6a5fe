-- The loop's invariant: the intervals from e on, below t, are raised.
use Rattle.trajectories.specs.Trajectories.{fall_in, Raised}
use Rattle.trajectories.proofs.add_after.Given as goal

abbrev pub invariant-loop-t : goal.invariant-loop-t
invariant-loop-t l = Raised (fall_in l.power.0 l.ramp l.starts l.e) l.e l.t l.initial.row l.row
