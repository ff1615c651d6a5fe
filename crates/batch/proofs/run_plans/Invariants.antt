-- With each plan fewer bytes are left, so an index does not wrap; the tables keep their lengths; what was told stands ahead of what is left to tell.
use Rattle.std.proofs.Common.{◌≡◌, ◌+◌, ◌^◌, ◌≤◌, length, take, IfSome}
use Rattle.decoded_cases.specs.Decoded.{Work, stated_rows}
use Rattle.frames.specs.Frames.{frame_room}
use Rattle.answers.specs.Room.{result_room}
use Rattle.batch.specs.Told.{plans_told}
use Rattle.batch.proofs.Streams.{Stands}
use Rattle.batch.proofs.run_plans.Given as goal

abbrev pub invariant-loop-rest : goal.invariant-loop-rest
invariant-loop-rest g l = record {
  counted : l.index + l.rest ≤ 2 ^ 61;
  frame_long : length l.frame ≡ frame_room;
  result_long : length l.result ≡ result_room;
  work : Work l.halves l.devices l.settings l.starts l.powers;
  told : IfSome (g.R.Read.remaining l.initial.input) (λ s. Stands (stated_rows l.front l.halves l.zones l.minima l.devices l.cells) l.index
      (plans_told (stated_rows l.front l.halves l.zones l.minima l.devices l.cells) 1 (take l.left s)) (g.W.Write.contents l.initial.output) (g.W.Write.contents l.output) l.rest
      (g.R.Read.remaining l.input));
}

abbrev pub decreases-loop-rest : goal.decreases-loop-rest
decreases-loop-rest g l = l.rest
