-- The forced figures are computed first.
use Rattle.mend_tries.specs.Tries.{ready_of, answers-broken, answers-held}
use Rattle.mend_tries.proofs.unbroken.Goals as goal

pub first_breach-first-requires : goal.first_breach-first-requires
first_breach-first-requires c =
    ready_of _ _ _ _ _ _ _ c.requires c.force.ensures

pub returns-in-Some : goal.returns-in-Some
returns-in-Some c =
    answers-broken c.args.front c.args.halves.now c.args.zones.now c.args.minima.now c.args.devices.now c.args.cells.now c.args.settings.now
    c.first_breach-first.ensures c.in-Some.is

pub returns-in-None : goal.returns-in-None
returns-in-None c =
    answers-held c.args.front c.args.halves.now c.args.zones.now c.args.minima.now c.args.devices.now c.args.cells.now c.args.settings.now
    c.first_breach-first.ensures c.in-None.is
