-- The forced figures are computed first; a plan that breaks no rule has an empty list.
use Rattle.decoded_cases.specs.Plans.{ready_of}
use Rattle.breach_lists.specs.Lists.{lists-none}
use Rattle.breach_lists.proofs.list_settings.Goals as goal

pub no_breach-requires : goal.no_breach-requires
no_breach-requires c = let early : _ = c in ready_of _ _ _ _ _ _ _
    early.requires c.force.ensures

pub returns-then-no_breach : goal.returns-then-no_breach
returns-then-no_breach c = let early : _ = c in
    let a : _ = early.args in lists-none a.front a.halves.now a.zones.now a.minima.now a.devices.now a.cells.now
    a.settings.now a.list.now (c.no_breach.ensures.0 c.if-no_breach.true)

pub list_all-requires : goal.list_all-requires
list_all-requires c = let early : _ = c in ready_of _ _ _ _ _ _ _
    early.requires early.force.ensures
