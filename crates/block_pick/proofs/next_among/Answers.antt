use mathlib.Core.Path.{refl, ◌∙◌}
use native.Mathlib.Omega.{arith}
use lib.Dec.{eqb}
use Rattle.block_pick.specs.Picks.{next_up_to}
use Rattle.block_pick.proofs.Picks.{found_below, found-same, found-better}
use Rattle.block_pick.proofs.next_among.Goals as goal
use Rattle.block_pick.proofs.next_among.Goals.{then-not-picked-k, else-not-picked-k}

pub loop-k-init : goal.loop-k-init
unfolding next_up_to
loop-k-init c = refl

pub better_of-found-requires : goal.better_of-found-requires
better_of-found-requires c =
    (omega arith, found_below (eqb c.args.side 1) c.args.prices c.args.picked c.loop-k.k c.loop-k.invariant)

pub loop-k-preserved : goal.loop-k-preserved
loop-k-preserved c =
    let a : _ = c.args in
    let e : _ = c.loop-k.invariant in
    elim c.if-not-picked-k.branch [
      | then-not-picked-k w ↦ w.found-is ∙ found-better (eqb a.side 1) a.prices a.picked c.loop-k.k e w.if-not-picked-k.true w.better_of-found.ensures
      | else-not-picked-k w ↦ w.found-is ∙ found-same (eqb a.side 1) a.prices a.picked c.loop-k.k e w.if-not-picked-k.false
    ]
