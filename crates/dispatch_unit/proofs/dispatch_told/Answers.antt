-- `dispatch_unit::dispatch_told` meets its contract.
-- Assumes nothing.
use mathlib.Core.Path.{ap}
use Rattle.dispatching.specs.Dispatch.{Outcome}
use Rattle.dispatch_tellings.specs.Hosts.{tells-short, tells-told}
use Rattle.dispatch_unit.proofs.dispatch_told.Goals as goal

pub returns-then-figures-lt4 : goal.returns-then-figures-lt4
returns-then-figures-lt4 c = tells-short _ _ _ _ _ _ _ _ c.if-figures-lt4.true

pub returns : goal.returns
returns c =
    let storing : _ = c in let telling : _ = storing in let held : _ = telling in
    tells-told _ _ _ _ _ _ _ _ held.dispatch_held-held.result.answer held.dispatch_held-held.result.offers held.if-figures-lt4.false
    (λ os x. let q : _ = held.dispatch_held-held.ensures.is os x.0 x.1 in (ap (λ (o : Outcome). o.answer) q, ap (λ (o : Outcome). o.powers) q, ap (λ (o : Outcome). o.offers) q))
    telling.tell_dispatch-told.ensures storing.store.ensures
