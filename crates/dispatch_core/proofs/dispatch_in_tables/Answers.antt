-- The first parts of the owner's tables hold the case that was read.
use Rattle.model.specs.Editions.{Largest}
use Rattle.decoded_cases.specs.Cases.{decoded-first}
use Rattle.dispatch_core.specs.Holds.{case-fails, case-passes}
use Rattle.dispatch_core.proofs.dispatch_in_tables.Goals as goal

pub dispatch_case-requires : goal.dispatch_case-requires
dispatch_case-requires g c =
    let l : Largest = record { devices = g.row.MOST_DEVICES; intervals = g.row.MOST_INTERVALS } in
    let d = decoded-first l c.requires.few.0 c.requires.few.1 _ _ _ _ _ _ _ _ c.in-Ok.ensures in d.decoded

pub returns-in-Err : goal.returns-in-Err
returns-in-Err g c =
    let l : Largest = record { devices = g.row.MOST_DEVICES; intervals = g.row.MOST_INTERVALS } in
    case-fails l c.requires.few.0 c.requires.few.1 _ _ _ _ _ _ _ c.in-Err.ensures

pub returns-in-Ok : goal.returns-in-Ok
returns-in-Ok g c =
    let l : Largest = record { devices = g.row.MOST_DEVICES; intervals = g.row.MOST_INTERVALS } in
    case-passes l c.requires.few.0 c.requires.few.1 _ _ _ _ _ _ _ _ c.in-Ok.ensures _ _ _ _ _ _ _ _ c.dispatch_case.ensures.is
