-- The loop's invariant: the intervals below t are written and charged.
use Rattle.interval_completions.specs.Advances.{IntervalsAdvance}
use Rattle.interval_completions.proofs.complete_intervals.Given as goal

abbrev pub invariant-loop-t : goal.invariant-loop-t
invariant-loop-t l = IntervalsAdvance l.front l.halves l.zones l.minima l.devices l.cells l.settings l.t l.initial.buf l.buf l.initial.q l.q
