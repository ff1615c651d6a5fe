-- The loop's invariant: the overruns of the devices below i are written and charged.
use Rattle.overrun_completions.specs.Advances.{OverrunsAdvance}
use Rattle.overrun_completions.proofs.complete_overruns.Given as goal

abbrev pub invariant-loop-i : goal.invariant-loop-i
invariant-loop-i l = OverrunsAdvance l.front l.halves l.zones l.minima l.devices l.cells l.settings l.i l.initial.buf l.buf l.initial.q l.q
