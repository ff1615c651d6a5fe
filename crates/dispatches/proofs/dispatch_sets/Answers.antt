-- Each ending is a case of the definition.
use Rattle.dispatches.specs.Cases.{dispatchable, given-met, given-unmet, given-unfit}
use Rattle.dispatches.proofs.dispatch_sets.Goals as goal

pub settle_powers-met-requires : goal.settle_powers-met-requires
settle_powers-met-requires c = let s : _ = c in
    let l : _ = c.sorted_offers-lent in dispatchable s.requires s.well_formed.1.1.1.1.1.1.1.1.1.0.1.0.1 l.ensures c.if-own.true

pub returns-then-met : goal.returns-then-met
returns-then-met c =
    let s : _ = c in let l : _ = c.sorted_offers-lent in
    given-met s.requires s.well_formed.1.1.1.1.1.1.1.1.1.0.1.0.1 l.ensures s.args.target _ _ c.if-own.true
    c.settle_powers-met.ensures c.if-met.true

pub returns-then-own : goal.returns-then-own
returns-then-own c =
    let s : _ = c in let l : _ = c.sorted_offers-lent in
    given-unmet s.requires s.well_formed.1.1.1.1.1.1.1.1.1.0.1.0.1 l.ensures s.args.target _ _ c.if-own.true
    c.settle_powers-met.ensures c.if-met.false

pub returns : goal.returns
returns c = let s : _ = c in
    let l : _ = c.sorted_offers-lent in given-unfit s.requires s.well_formed.1.1.1.1.1.1.1.1.1.0.1.0.1 l.ensures s.args.target c.if-own.false
