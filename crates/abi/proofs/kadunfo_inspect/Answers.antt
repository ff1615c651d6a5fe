-- Too few places, or the answer told.
use Rattle.abi.specs.Hosts.{inspects-short, inspects-told}
use Rattle.abi.proofs.kadunfo_inspect.Goals as goal

pub returns-then-figures-lt4 : goal.returns-then-figures-lt4
returns-then-figures-lt4 c = inspects-short _ _ c.if-figures-lt4.true

pub returns : goal.returns
returns c =
    let storing : _ = c in
    let serving : _ = storing in
    let tested : _ = serving in
    let start : _ = tested in
    inspects-told _ _ start.args.case.now _ tested.if-figures-lt4.false serving.serve-t.ensures storing.store.ensures
