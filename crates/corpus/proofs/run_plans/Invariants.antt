-- With each plan fewer bytes are left; the tables keep their lengths.
use Rattle.std.proofs.Common.{◌≡◌, ◌+◌, ◌^◌, ◌≤◌, ◌<◌, length}
use Rattle.decoded_cases.specs.Decoded.{Work}
use Rattle.frames.specs.Frames.{frame_room}
use Rattle.answers.specs.Room.{result_room}
use Rattle.corpus.proofs.run_plans.Given as goal

abbrev pub invariant-loop-rest : goal.invariant-loop-rest
invariant-loop-rest g l = record {
  counted : l.index + l.rest ≤ 2 ^ 32;
  few : l.rest < 2 ^ 32;
  frame_long : length l.frame ≡ frame_room;
  result_long : length l.result ≡ result_room;
  work : Work l.halves l.devices l.settings l.starts l.powers;
}

abbrev pub decreases-loop-rest : goal.decreases-loop-rest
decreases-loop-rest g l = l.rest
