-- Too few places, or the answer told.
use mathlib.Core.Bool.{true}
use Rattle.abi.specs.Hosts.{reads_short, reads-told}
use Rattle.abi.proofs.kadunfo_read_completion.Goals as goal

pub returns-then-figures-lt4 : goal.returns-then-figures-lt4
returns-then-figures-lt4 c = reads_short _ _ _ _ _ c.if-figures-lt4.true

pub returns : goal.returns
returns c =
    let storing : _ = c in
    let serving : _ = storing in
    let tested : _ = serving in
    reads-told _ _ _ _ true _ tested.if-figures-lt4.false serving.serve-t.ensures storing.store.ensures
