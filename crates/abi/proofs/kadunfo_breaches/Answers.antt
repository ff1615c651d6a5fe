-- Too few places, or the answer told.
use Rattle.abi.specs.Hosts.{lists-short, lists-told}
use Rattle.abi.proofs.kadunfo_breaches.Goals as goal

pub returns-then-figures-lt4 : goal.returns-then-figures-lt4
returns-then-figures-lt4 c = lists-short _ _ _ _ c.if-figures-lt4.true

pub returns : goal.returns
returns c =
    let storing : _ = c in
    let serving : _ = storing in
    let tested : _ = serving in
    lists-told _ _ _ _ tested.if-figures-lt4.false serving.serve-t.ensures storing.store.ensures
