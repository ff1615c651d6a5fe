-- Step by step, by the splice.
use Rattle.writing.specs.CaseSplices.{case_splice}
use Rattle.bit_copier.specs.Moves.{moves-then, add-moves, set_after}
use Rattle.case_copier.proofs.copy_case.Goals as goal

pub returns : goal.returns
unfolding case_splice
returns c =
    let kind = add-moves 4 1 c.requires c.add_field-q.ensures in
    moves-then kind (moves-then (add-moves 4 5 (set_after kind) c.add_field-q-2.ensures) c.copy_content.ensures)
