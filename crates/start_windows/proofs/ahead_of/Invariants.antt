-- The loop's invariant: no start of the intervals below t counts.
use Rattle.start_windows.specs.Windows.{Counted}
use Rattle.start_windows.proofs.ahead_of.Given as goal

abbrev pub invariant-loop-t : goal.invariant-loop-t
invariant-loop-t l = Counted l.w l.on0 l.settings l.starts l.t 0
