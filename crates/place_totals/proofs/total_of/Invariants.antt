use mathlib.Core.Path.{◌≡◌}
use Prim.Native.Nat.{◌≤◌, ◌*◌}
use lib.ListN.{get_or}
use Rattle.numbers.specs.Base.{up_to}
use Rattle.numbers.specs.Sum.{sumℕ}
use Rattle.place_totals.proofs.total_of.Given as goal

abbrev pub invariant-loop-x : goal.invariant-loop-x
invariant-loop-x l = (l.sum ≡ sumℕ (λ k. get_or l.x-items k 0) (up_to l.x-index)) × (l.sum ≤ l.x-index * 100000)
