-- By how many messages there are, and the table's places.
use native.Mathlib.Omega.{arith}
use mathlib.Core.Path.{sym, ◌∙◌}
use Rattle.stacks.proofs.Judges.{batch-refused, batch-short, batch-judged}
use Rattle.stack_judgement.proofs.judge_batch_in.Goals as goal

pub overflow_mul-places : goal.overflow_mul-places
overflow_mul-places c = omega (arith, c.count_messages.ensures.few _ c.in-Messages.is)

pub returns-then-table-places : goal.returns-then-table-places
returns-then-table-places c = batch-short _ _ _ _ c.count_messages.ensures.is c.in-Messages.is c.if-table-places.true

pub judge_messages-bytes-requires : goal.judge_messages-bytes-requires
judge_messages-bytes-requires c =
    let counted : _ = c in
    let start : _ = counted in
    (start.requires.0, start.requires.1, sym counted.count_messages.ensures.is ∙ counted.in-Messages.is, c.if-table-places.false)

pub returns-in-Refused : goal.returns-in-Refused
returns-in-Refused c = batch-refused _ _ _ _ c.count_messages.ensures.is c.in-Refused.is

pub returns-else-table-places : goal.returns-else-table-places
returns-else-table-places c =
    let judged : _ = c in
    let room : _ = judged in
    let counted : _ = room in
    batch-judged _ _ _ _ counted.count_messages.ensures.is counted.in-Messages.is room.if-table-places.false judged.judge_messages-bytes.ensures
