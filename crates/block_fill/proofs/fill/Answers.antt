use mathlib.Core.Path.{refl}
use native.Mathlib.Omega.{arith}
use lib.Dec.{eqb}
use Rattle.block_pick.proofs.Order.{ahead-linear}
use Rattle.block_pick.proofs.Ranks.{fewer-left, picked-length}
use Rattle.block_pick.proofs.Picks.{all-places}
use Rattle.block_fill.specs.Steps.{filling-all, filling-out, arrays-none, arrays-more, filled_of}
use Rattle.block_fill.proofs.fill.Goals as goal

pub loop-left-init : goal.loop-left-init
loop-left-init c = let a : _ = c.args in (refl, arrays-none (ahead-linear (eqb a.side 1) a.prices) a.blocks c.requires.few a.caps a.p.0)

pub returns-in_default : goal.returns-in_default
returns-in_default c =
    let a : _ = c.args in
    let lin : _ = ahead-linear (eqb a.side 1) a.prices in
    filled_of a.side a.p.0 a.blocks a.caps a.prices c.requires c.loop-left.powers c.loop-left.invariant.0
    (filling-all lin c.loop-left.invariant.1 (all-places _ _ (c.next-next.ensures.none.0 c.in_default.is))) c.loop-left.invariant.1.beyond

pub offset_bounds-caps-k : goal.offset_bounds-caps-k
offset_bounds-caps-k c = omega (arith, (c.next-next.ensures.next-is _ c.in-Some.is).one)

pub bounds-caps-k : goal.bounds-caps-k
bounds-caps-k c = omega (arith, (c.next-next.ensures.next-is _ c.in-Some.is).one)

pub offset_bounds-powers-k : goal.offset_bounds-powers-k
offset_bounds-powers-k c = omega (arith, (c.next-next.ensures.next-is _ c.in-Some.is).one)

pub bounds-powers-k : goal.bounds-powers-k
bounds-powers-k c = omega (arith, (c.next-next.ensures.next-is _ c.in-Some.is).one)

pub bounds-picked-k : goal.bounds-picked-k
bounds-picked-k c = omega (arith, (c.next-next.ensures.next-is _ c.in-Some.is).one)

pub loop-left-smaller : goal.loop-left-smaller
loop-left-smaller c =
    let lin : _ = ahead-linear (eqb c.args.side 1) c.args.prices in
    let next : _ = c.next-next.ensures.next-is _ c.in-Some.is in
    fewer-left c.args.blocks c.loop-left.picked _ (picked-length lin c.loop-left.invariant.1.picks.1) next.one next.fresh

pub loop-left-preserved : goal.loop-left-preserved
loop-left-preserved c =
    let a : _ = c.args in
    let lin : _ = ahead-linear (eqb a.side 1) a.prices in
    let next : _ = c.next-next.ensures.next-is _ c.in-Some.is in
    arrays-more lin c.requires.few a.caps c.loop-left.powers c.loop-left.invariant.0 c.loop-left.invariant.1 next c.least-power.ensures c.less-left.ensures

pub returns : goal.returns
returns c =
    let a : _ = c.args in
    let lin : _ = ahead-linear (eqb a.side 1) a.prices in
    filled_of a.side a.p.0 a.blocks a.caps a.prices c.requires c.loop-left.powers c.loop-left.invariant.0
    (filling-out lin c.loop-left.invariant.1 (omega arith)) c.loop-left.invariant.1.beyond
