-- Judged, told and stored.
use Rattle.stack_turns.specs.Steps.{few-rows, turn-taken}
use Rattle.stack_turns.proofs.take_turn.Goals as goal

pub bytes_written-bytes-requires : goal.bytes_written-bytes-requires
bytes_written-bytes-requires c = few-rows c.requires.0

pub returns : goal.returns
returns c =
    let told : _ = c in
    let judged : _ = told in
    turn-taken judged.requires.0 _ judged.judge_plan-v.ensures told.bytes_written-bytes.ensures told.tell-t.ensures c.put_row.ensures
