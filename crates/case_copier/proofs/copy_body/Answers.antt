-- Step by step, by the splice.
use Rattle.writing.specs.CaseSplices.{body_splice}
use Rattle.bit_copier.specs.Moves.{moves-then, run-times}
use Rattle.case_copier.proofs.copy_body.Goals as goal

pub returns : goal.returns
unfolding body_splice
returns c =
    moves-then c.keep_field-q.ensures (moves-then c.keep_field-q-2.ensures (moves-then c.keep_since-q.ensures (moves-then (run-times _ 8 c.keep_run-q.ensures)
    (moves-then c.copy_zones-q.ensures c.copy_devices.ensures))))
