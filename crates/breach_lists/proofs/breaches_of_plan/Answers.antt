-- A plan that fails reading is refused; else the breaches of its rows are listed.
use Rattle.decoded_cases.specs.Plans.{plan-room, planned-of}
use Rattle.breach_lists.specs.Plans.{list-fails, list-passes}
use Rattle.breach_lists.proofs.breaches_of_plan.Goals as goal

pub read_plan-requires : goal.read_plan-requires
read_plan-requires c = let entry : _ = c in plan-room entry.requires.0 entry.requires.1

pub list_settings-requires : goal.list_settings-requires
list_settings-requires c = let reading : _ = c in
    let entry : _ = reading in planned-of entry.requires.0 _ _ _ reading.read_plan.ensures entry.requires.1
    c.in-Ok.is

pub returns-in-Err : goal.returns-in-Err
returns-in-Err c = list-fails c.requires.0 _ _ _
    c.read_plan.ensures _ c.in-Err.is

pub returns-in-Ok : goal.returns-in-Ok
returns-in-Ok c = let told : _ = c in let reading : _ = told in
    let entry : _ = reading in list-passes entry.requires.0 _ _ _ reading.read_plan.ensures told.in-Ok.is
    c.list_settings.ensures
