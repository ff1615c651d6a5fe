-- The bounds are in order before they are summed.
use mathlib.Core.Path.{◌≡◌, ap}
use mathlib.Core.Bool.{true, false}
use mathlib.Core.List.{List}
use Prim.Native.Nat.{ℕ, ◌<◌, ◌≤◌}
use native.Mathlib.Omega.{arith}
use borrow.Author.Tests.{le-leb}
use lib.Dec.{T, leb, leb→le}
use lib.ListN.{length, get_or}
use Rattle.std.specs.Bool.{Decides}
use Rattle.std.proofs.lemmas.Bool.Decides.{same_from_decides}
use Rattle.numbers.specs.Every.{every-out, every_true, up_to-all, all-up_to}
use Rattle.dispatching.specs.Dispatch.{places}
use Rattle.place_totals.specs.Totals.{in_order_at, ordered_by, total_of, meetable}
use Rattle.place_totals.proofs.can_meet.Goals as goal
use Rattle.place_totals.proofs.can_meet.Goals.{then-ordered, else-ordered}

by_places : (lo hi : List ℕ) → length lo ≡ 64 → Decides (ordered_by lo hi) ((k : ℕ) → k < length lo → get_or lo k 0 ≤ get_or hi k 0)
unfolding ordered_by
by_places lo hi n = (
  λ e k l. leb→le _ _ (up_to-all (λ i. T (in_order_at lo hi i)) 64 (every-out (in_order_at lo hi) places (rw e tt)) k (omega arith)),
  λ h. every_true (in_order_at lo hi) places (all-up_to _ 64 (λ k l. le-leb _ _ (h k (omega arith)))),
)

pub returns-then-total_of-target : goal.returns-then-total_of-target
unfolding meetable
returns-then-total_of-target c =
    let a = c.args in
    let e : c.ordered.result ≡ ordered_by a.lo a.hi = same_from_decides _ _ c.ordered.ensures (by_places a.lo a.hi (omega arith)) in
    elim c.if-ordered.branch [
      | then-ordered w ↦
          let o : ordered_by a.lo a.hi ≡ true = cc in
          let l : leb (total_of a.lo) a.target ≡ true = cc in
          rw (o, l) (ap (leb a.target) c.total_of-then-total_of-target.ensures)
      | else-ordered w ↦ cc
    ]

pub returns-else-total_of-target : goal.returns-else-total_of-target
unfolding meetable
returns-else-total_of-target c =
    let a = c.args in
    let e : c.ordered.result ≡ ordered_by a.lo a.hi = same_from_decides _ _ c.ordered.ensures (by_places a.lo a.hi (omega arith)) in
    elim c.if-ordered.branch [
      | then-ordered w ↦
          let o : ordered_by a.lo a.hi ≡ true = cc in
          let l : leb (total_of a.lo) a.target ≡ false = cc in
          rw (o, l) c.if-total_of-target.false
      | else-ordered w ↦ let o : ordered_by a.lo a.hi ≡ false = cc in rw o c.if-total_of-target.false
    ]
