-- The offers that are found are the case's own.
use Rattle.lent_offers.specs.Lent.{sorts}
use Rattle.lent_offers.proofs.sorted_offers.Goals as goal

pub returns : goal.returns
returns c = sorts _ _ _ c.own_offers-listed.ensures.1 c.matched.ensures
