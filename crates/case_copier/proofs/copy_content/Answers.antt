-- The count decides what follows.
use Rattle.std.proofs.Common.{ℕ}
use Rattle.model.specs.Editions.{interval_bits}
use Rattle.writing.specs.Splice.{by}
use Rattle.writing.specs.CaseSplices.{body_splice, content_splice}
use Rattle.bit_copier.specs.Moves.{moves-by, by_as}
use Rattle.case_copier.proofs.copy_content.Goals as goal

pub returns : goal.returns
unfolding content_splice
returns c =
    let timed : _ = λ (devices : ℕ). by (interval_bits c.args.edition) 7 (λ intervals. by 3 3 (λ zones. body_splice c.args.edition devices intervals zones)) in
    by_as _ _ 7 timed c.device_bits-width.ensures (moves-by c.device_bits-width.result 7 c.next_field-devices.result timed c.next_field-devices.ensures
    c.widen_field-q.ensures c.copy_timed.ensures)
