-- The loop's invariant: the windows of the devices below i are counted.
use Rattle.completions.specs.Windows.{CountedTo}
use Rattle.completions.proofs.count_windows.Given as goal

abbrev pub invariant-loop-i : goal.invariant-loop-i
invariant-loop-i l = CountedTo l.devices l.i l.n
