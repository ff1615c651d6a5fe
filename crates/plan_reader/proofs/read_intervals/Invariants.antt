-- The loop's invariant: the first t intervals stand in their rows.
use Rattle.plan_reader.proofs.Turns.{Planning}
use Rattle.plan_reader.proofs.read_intervals.Given as goal

abbrev pub invariant-loop-t : goal.invariant-loop-t
invariant-loop-t l = Planning l.edition l.devices l.intervals l.s l.initial.q l.t l.settings l.q
