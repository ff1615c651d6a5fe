-- The loop's invariant: the intervals from t on, before e, are raised.
use Rattle.trajectories.specs.Trajectories.{rise_in, Raised}
use Rattle.trajectories.proofs.add_before.Given as goal

abbrev pub invariant-loop-t : goal.invariant-loop-t
invariant-loop-t l = Raised (rise_in l.power.0 l.ramp l.starts l.e) l.t l.e l.initial.row l.row
