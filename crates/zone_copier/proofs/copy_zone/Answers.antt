-- Step by step, by the splice.
use Rattle.writing.specs.CaseSplices.{zone_splice}
use Rattle.bit_copier.specs.Moves.{moves-then}
use Rattle.zone_copier.proofs.copy_zone.Goals as goal

pub returns : goal.returns
unfolding zone_splice
returns c =
    moves-then c.keep_field-q.ensures (moves-then c.keep_field-q-2.ensures (moves-then c.keep_since-q.ensures c.copy_each.ensures))
