-- Too few places, or the answer told.
use Rattle.abi.specs.Hosts.{case-short, case-told}
use Rattle.abi.proofs.kadunfo_write_case.Goals as goal

pub returns-then-figures-lt4 : goal.returns-then-figures-lt4
returns-then-figures-lt4 c = case-short _ _ _ c.if-figures-lt4.true

pub returns : goal.returns
returns c =
    let storing : _ = c in
    let serving : _ = storing in
    let tested : _ = serving in
    let start : _ = tested in
    case-told _ _ _ start.args.case.now tested.if-figures-lt4.false serving.serve-t.ensures storing.store.ensures
