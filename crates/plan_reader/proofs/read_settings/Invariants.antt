-- The loop's invariant: the first i devices' settings of interval t stand in their rows, and rows of other intervals are as they were.
use Rattle.plan_reader.proofs.Turns.{Filling}
use Rattle.plan_reader.proofs.read_settings.Given as goal

abbrev pub invariant-loop-i : goal.invariant-loop-i
invariant-loop-i l = Filling l.edition l.devices l.intervals l.t l.s l.initial.q l.initial.settings l.i l.settings l.q
