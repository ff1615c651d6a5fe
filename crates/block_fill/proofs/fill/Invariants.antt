-- The blocks picked so far have their powers; it ends where all are picked or nothing is left.
use mathlib.Core.Path.{◌≡◌}
use Prim.Native.Nat.{◌-◌}
use lib.Dec.{eqb}
use lib.ListN.{length}
use Rattle.block_pick.specs.Order.{ahead_in}
use Rattle.block_pick.specs.Ranks.{held}
use Rattle.block_fill.specs.Filled.{cap_of}
use Rattle.block_fill.specs.Steps.{Filling}
use Rattle.block_fill.proofs.fill.Given as goal

abbrev pub invariant-loop-left : goal.invariant-loop-left
invariant-loop-left l =
    (length l.powers ≡ 4) × Filling (ahead_in (eqb l.side 1) l.prices) l.blocks (cap_of l.caps) l.initial.left.0 l.picked (cap_of l.powers) l.left.0

abbrev pub decreases-loop-left : goal.decreases-loop-left
decreases-loop-left l = l.blocks - held (λ j. 1) l.blocks l.picked
