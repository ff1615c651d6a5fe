-- The plan is judged with room for any completion; refused or broken as it is, or its completion copied.
use Rattle.market_copies.specs.Steps.{copy-refused, copy-broken, copy-accepted, few-rows, whole_room}
use Rattle.market_copies.proofs.copy_plan.Goals as goal

pub copy_written-requires : goal.copy_written-requires
copy_written-requires c =
    let judged : _ = c in
    let entry : _ = judged in
    (few-rows entry.requires.0 _ _ entry.requires.2 judged.judge_plan-verdict.ensures, whole_room entry.requires.0 _ _ entry.requires.2 judged.judge_plan-verdict.ensures c.in-Accepted.is)

pub returns-in-Refused : goal.returns-in-Refused
returns-in-Refused c =
    let judged : _ = c in
    let entry : _ = judged in
    copy-refused entry.requires.0 _ _ entry.requires.2 judged.judge_plan-verdict.ensures _ c.in-Refused.is

pub returns-in-Broken : goal.returns-in-Broken
returns-in-Broken c =
    let judged : _ = c in
    let entry : _ = judged in
    copy-broken entry.requires.0 _ _ entry.requires.2 judged.judge_plan-verdict.ensures _ c.in-Broken.is

pub returns-in-Accepted : goal.returns-in-Accepted
returns-in-Accepted c =
    let copying : _ = c in
    let told : _ = copying in
    let judged : _ = told in
    let entry : _ = judged in
    copy-accepted entry.requires.0 _ _ entry.requires.2 judged.judge_plan-verdict.ensures told.in-Accepted.is copying.copy_written.ensures
