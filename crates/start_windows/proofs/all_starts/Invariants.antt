-- The loop's invariant: the starts of the intervals below t are counted.
use Rattle.start_windows.specs.Windows.{StartsTo}
use Rattle.start_windows.proofs.all_starts.Given as goal

abbrev pub invariant-loop-t : goal.invariant-loop-t
invariant-loop-t l = StartsTo l.on0 l.settings l.t l.sum
