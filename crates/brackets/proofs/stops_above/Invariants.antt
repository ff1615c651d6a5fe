-- The loop's invariant: the stops below e are counted.
use Rattle.brackets.specs.Counts.{stop_count, CountedTo}
use Rattle.brackets.proofs.stops_above.Given as goal

abbrev pub invariant-loop-e : goal.invariant-loop-e
invariant-loop-e l = CountedTo (stop_count l.r l.cells l.settings l.starts l.t) l.e l.n
