-- The loop's invariant: the first 1 from `at` on is the first from i on.
use Prim.Native.Nat.{◌-◌}
use mathlib.Core.Path.{◌≡◌}
use Rattle.layouts.specs.Layout.{first_one}
use Rattle.message_ends.proofs.first_one.Given as goal

abbrev pub invariant-loop-i : goal.invariant-loop-i
invariant-loop-i l = first_one l.s l.at (l.end - l.at) ≡ first_one l.s l.i (l.end - l.i)
