-- A full offer has four blocks.
use mathlib.Core.Path.{sym, ap, ◌∙◌}
use Prim.Native.Nat.{ℕ}
use lib.Dec.{eqb}
use Rattle.block_pick.specs.Picks.{next_of}
use Rattle.block_pick.proofs.Picks.{picks_of}
use Rattle.block_pick.proofs.next.Goals as goal

pub returns-then-blocks-eq-MOST_BLOCKS : goal.returns-then-blocks-eq-MOST_BLOCKS
returns-then-blocks-eq-MOST_BLOCKS c = let a : _ = c.args in
    picks_of (eqb a.side 1) a.prices a.blocks a.picked (c.next_among.ensures ∙ ap (λ (n : ℕ). next_of (eqb a.side 1) a.prices n a.picked) (sym c.if-blocks-eq-MOST_BLOCKS.true))

pub returns : goal.returns
returns c = let a : _ = c.args in picks_of (eqb a.side 1) a.prices a.blocks a.picked c.next_among-2.ensures
