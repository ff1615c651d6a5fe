-- Each task by the function that does it.
use Rattle.decoded_cases.specs.Plans.{plan-room}
use Rattle.task_work.specs.Steps.{known, inspect-served, judge-served, breaches-served, some-case, case-served, plan-served, batch-served}
use Rattle.task_work.proofs.serve_in.Goals as goal

pub judge_plan-x-requires : goal.judge_plan-x-requires
judge_plan-x-requires c =
    (c.requires.1, c.requires.2)

pub breaches_of_plan-x-requires : goal.breaches_of_plan-x-requires
breaches_of_plan-x-requires c =
    (c.requires.1, c.requires.2)

pub rewrite_read_case-x-requires : goal.rewrite_read_case-x-requires
rewrite_read_case-x-requires c = some-case _ _ _ _ _ _ c.requires.0

pub rewrite_plan_by-x-requires : goal.rewrite_plan_by-x-requires
rewrite_plan_by-x-requires c =
    plan-room c.requires.1 c.requires.2

pub complete_in-requires : goal.complete_in-requires
complete_in-requires c =
    (c.requires.1, c.requires.2)

pub read_back-requires : goal.read_back-requires
read_back-requires c = c.requires.1

pub read_back-requires-in-ReadMarket : goal.read_back-requires-in-ReadMarket
read_back-requires-in-ReadMarket c = c.requires.1

pub complete_in-requires-in-Mend : goal.complete_in-requires-in-Mend
complete_in-requires-in-Mend c =
    (c.requires.1, c.requires.2)

pub judge_batch_in-x-requires : goal.judge_batch_in-x-requires
judge_batch_in-x-requires c =
    (c.requires.1, c.requires.2)

pub returns-in-Inspect : goal.returns-in-Inspect
returns-in-Inspect c = inspect-served _ _ _ _ _ _ _ _ _ c.in-Inspect.is c.tell_case.ensures

pub returns-in-Judge : goal.returns-in-Judge
returns-in-Judge c =
    judge-served _ _ _ _ _ _ _ _ c.in-Judge.is c.judge_plan-x.ensures c.tell.ensures

pub returns-in-Breaches : goal.returns-in-Breaches
returns-in-Breaches c =
    breaches-served _ _ _ _ _ _ _ _ c.in-Breaches.is c.breaches_of_plan-x.ensures c.tell_list.ensures

pub returns-in-WriteCase : goal.returns-in-WriteCase
returns-in-WriteCase c =
    case-served _ _ _ _ _ _ _ _ c.in-WriteCase.is c.requires.0 c.rewrite_read_case-x.ensures c.tell_writing.ensures

pub returns-in-WritePlan : goal.returns-in-WritePlan
returns-in-WritePlan c =
    plan-served _ _ _ _ _ _ _ _ c.in-WritePlan.is c.requires.0 c.rewrite_plan_by-x.ensures c.tell_writing-in-WritePlan.ensures

pub returns-in-Copy : goal.returns-in-Copy
returns-in-Copy c =
    known _ _ _ _ _ _ _ _ _ c.in-Copy.is (c.complete_in.ensures _)

pub returns-in-ReadCompletion : goal.returns-in-ReadCompletion
returns-in-ReadCompletion c = known _ _ _ _ _ _ _ _ _ c.in-ReadCompletion.is (c.read_back.ensures _)

pub returns-in-ReadMarket : goal.returns-in-ReadMarket
returns-in-ReadMarket c = known _ _ _ _ _ _ _ _ _ c.in-ReadMarket.is (c.read_back-in-ReadMarket.ensures _)

pub returns-in-Mend : goal.returns-in-Mend
returns-in-Mend c =
    known _ _ _ _ _ _ _ _ _ c.in-Mend.is (c.complete_in-in-Mend.ensures _)

pub returns-in-Batch : goal.returns-in-Batch
returns-in-Batch c =
    batch-served _ _ _ _ _ _ _ c.in-Batch.is c.judge_batch_in-x.ensures c.tell_stack.ensures
