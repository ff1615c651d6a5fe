-- The loop's invariant: the starts below e are counted, of which none up to t counts.
use Rattle.brackets.specs.Counts.{start_count, CountedTo}
use Rattle.brackets.proofs.starts_above.Given as goal

abbrev pub invariant-loop-e : goal.invariant-loop-e
invariant-loop-e l = CountedTo (start_count l.r l.cells l.settings l.starts l.t) l.e l.n
