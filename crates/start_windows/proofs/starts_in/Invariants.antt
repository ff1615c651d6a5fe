-- The loop's invariant: the starts of the intervals below t that count are counted; it begins behind those ahead of the window.
use Rattle.start_windows.specs.Windows.{Reached}
use Rattle.start_windows.proofs.starts_in.Given as goal

abbrev pub invariant-loop-t : goal.invariant-loop-t
invariant-loop-t l = Reached l.w l.on0 l.settings l.starts l.t l.counted
