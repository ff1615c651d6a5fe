-- The run from the start that is made here is the dispatch.
use Rattle.dispatch_powers.specs.Powers.{ranged, run-dispatches}
use Rattle.dispatch_powers.proofs.powers_by.Goals as goal

pub raised-requires : goal.raised-requires
raised-requires c =
    let a = c.args in
    ranged a.all a.n a.lo a.hi a.target c.well_formed.0.1.0.1 c.requires c.floors_of.result c.floors_of.ensures c.total_of.result c.total_of.ensures

pub returns : goal.returns
returns c =
    let a = c.args in
    run-dispatches a.all a.n a.lo a.hi a.target c.well_formed.0.1.0.1 c.requires c.floors_of.result c.floors_of.ensures c.total_of.result c.total_of.ensures
    c.raised.result c.raised.ensures
