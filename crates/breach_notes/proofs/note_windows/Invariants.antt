-- The loop's invariant: the breaches of the windows that are left are still to be noted.
use Rattle.failing_rules.specs.Parts.{window_here}
use Rattle.breach_entries.specs.Noted.{GatherLeft}
use Rattle.breach_notes.proofs.note_windows.Given as goal

abbrev pub invariant-loop-w : goal.invariant-loop-w
invariant-loop-w l = GatherLeft (window_here l.fn.d l.settings l.starts l.i) l.fn.d.nstarts l.k l.initial.list l.w l.n l.list
