-- As many offers are compared place by place; lists of another length are not the same.
use Rattle.lent_offers.specs.Lent.{alike, apart}
use Rattle.lent_offers.proofs.matched.Goals as goal

pub returns-then-n-count : goal.returns-then-n-count
returns-then-n-count c =
    let s : _ = c in let a : _ = s.args in
    alike a.all a.found a.count a.n s.well_formed.1.1.0.1.0.1 s.well_formed.0.1.0.1 s.requires.1 _ _ _ c.if-n-count.true
    c.sorted-lent.ensures c.sorted-ours.ensures c.same_offers-own.ensures

pub returns : goal.returns
returns c =
    let s : _ = c in let a : _ = s.args in
    apart a.all a.found a.count a.n s.well_formed.1.1.0.1.0.1 s.well_formed.0.1.0.1 s.requires.1 _ s.requires.0 c.if-n-count.false c.sorted-lent.ensures
