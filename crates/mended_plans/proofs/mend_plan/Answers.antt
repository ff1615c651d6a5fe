-- A plan that fails reading is refused; else its rows are mended.
use Rattle.decoded_cases.specs.Plans.{plan-room, planned-of}
use Rattle.mended_plans.specs.Steps.{plan-fails, plan-passes}
use Rattle.mended_plans.proofs.mend_plan.Goals as goal

pub read_plan-requires : goal.read_plan-requires
read_plan-requires c = let entry : _ = c in plan-room entry.requires.0 entry.requires.1

pub mend_settings-requires : goal.mend_settings-requires
mend_settings-requires c = let reading : _ = c in
    let entry : _ = reading in
    (planned-of entry.requires.0 _ _ _ reading.read_plan.ensures entry.requires.1 c.in-Ok.is, entry.requires.2)

pub returns-in-Err : goal.returns-in-Err
returns-in-Err c = plan-fails c.requires.0 _ _ _
    c.read_plan.ensures c.in-Err.is

pub returns-in-Ok : goal.returns-in-Ok
returns-in-Ok c =
    let mended : _ = c in
    let match : _ = mended in
    let reading : _ = match in
    let entry : _ = reading in
    plan-passes entry.requires.0 _ _ _ reading.read_plan.ensures match.in-Ok.is mended.mend_settings.ensures
