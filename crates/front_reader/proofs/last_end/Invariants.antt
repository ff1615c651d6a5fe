-- The loop's invariant: the sum of the first i halves, each at most 180.
use Prim.Native.Nat.{ℕ, ◌-◌, ◌*◌, ◌≤◌}
use mathlib.Core.Path.{◌≡◌}
use lib.ListN.{take}
use Rattle.numbers.specs.Sum.{sumℕ}
use Rattle.front_reader.proofs.last_end.Given as goal

abbrev pub invariant-loop-i : goal.invariant-loop-i
invariant-loop-i l = (l.sum ≡ sumℕ (λ h. h) (take l.i l.halves)) × (l.sum ≤ 180 * l.i)
