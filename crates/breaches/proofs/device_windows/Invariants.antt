-- The loop's invariant: the windows that are left give what all give.
use Rattle.breaches.specs.First.{Left}
use Rattle.failing_rules.specs.Parts.{window_here}
use Rattle.breaches.proofs.device_windows.Given as goal

abbrev pub invariant-loop-w : goal.invariant-loop-w
invariant-loop-w l = Left (window_here l.fn.d l.settings l.starts l.i) l.fn.d.nstarts l.w
