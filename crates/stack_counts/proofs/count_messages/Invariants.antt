-- The loop's invariant: the messages ahead of `at` are counted.
use Prim.Native.Nat.{◌-◌}
use lib.ListN.{length}
use Rattle.stack_counts.specs.Counts.{Counting}
use Rattle.stack_counts.proofs.count_messages.Given as goal

abbrev pub invariant-loop-f : goal.invariant-loop-f
invariant-loop-f l = Counting l.batch l.at l.count

abbrev pub decreases-loop-f : goal.decreases-loop-f
decreases-loop-f l = length l.batch - l.at
