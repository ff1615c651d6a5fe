-- Refused in reading, or copied by its edition.
use Rattle.rewrites.specs.Steps.{case-some, case-fails, case-passes}
use Rattle.rewrites.proofs.rewrite_case_by.Goals as goal

pub rewrite_read_case-requires : goal.rewrite_read_case-requires
rewrite_read_case-requires c = case-some _ _ _ _ _ _ _ _ _ _ c.in-Ok.ensures

pub returns-in-Err : goal.returns-in-Err
returns-in-Err c = case-fails _ _ _ _ c.in-Err.ensures

pub returns-in-Ok : goal.returns-in-Ok
returns-in-Ok c = case-passes _ _ _ _ _ _ _ _ _ _ c.in-Ok.ensures c.rewrite_read_case.ensures
