-- Refused in reading, or copied by its edition and counts.
use native.Mathlib.Omega.{arith}
use Rattle.rewrites.specs.Steps.{plan-some, plan-fails, plan-passes}
use Rattle.rewrites.proofs.rewrite_plan_by.Goals as goal

pub renew_plan-bytes-requires : goal.renew_plan-bytes-requires
renew_plan-bytes-requires c = let entry : _ = c in
    (plan-some _ _ _ _ _ _ c.read_plan.ensures c.in-Ok.is, omega (arith, entry.requires.few-devices), omega (arith, entry.requires.few-intervals))

pub returns-in-Err : goal.returns-in-Err
returns-in-Err c = plan-fails _ _ _ _ _ _ c.read_plan.ensures _ c.in-Err.is

pub returns-in-Ok : goal.returns-in-Ok
returns-in-Ok c = let entry : _ = c in
    plan-passes _ _ _ _ _ _ c.read_plan.ensures entry.requires.few-devices entry.requires.few-intervals
    c.in-Ok.is c.renew_plan-bytes.ensures
    c.answer.ensures
