-- A plan that fails reading is refused; else its rows are judged.
use Rattle.decoded_cases.specs.Plans.{plan-room, planned-of}
use Rattle.plan_judgement.specs.Steps.{plan-fails, plan-passes}
use Rattle.plan_judgement.proofs.judge_plan.Goals as goal

pub read_plan-requires : goal.read_plan-requires
read_plan-requires c = let entry : _ = c in plan-room entry.requires.0 entry.requires.1

pub judge_settings-requires : goal.judge_settings-requires
judge_settings-requires c = let earlier : _ = c in
    let entry : _ = earlier in
    planned-of entry.requires.0 _ _ _ c.read_plan.ensures entry.requires.1 c.in-Ok.is

pub returns-in-Err : goal.returns-in-Err
returns-in-Err c = plan-fails c.requires.0 _ _ _
    c.read_plan.ensures _ c.in-Err.is

pub returns-in-Ok : goal.returns-in-Ok
returns-in-Ok c = let earlier : _ = c in
    let reading : _ = earlier in let entry : _ = reading in
    plan-passes entry.requires.0 _ _ _ reading.read_plan.ensures
    c.in-Ok.is c.judge_settings.ensures
