-- The count decides what follows.
use Rattle.std.proofs.Common.{ℕ}
use Rattle.writing.specs.Splice.{by}
use Rattle.writing.specs.CaseSplices.{body_splice}
use Rattle.bit_copier.specs.Moves.{moves-by, by_as}
use Rattle.case_copier.proofs.copy_timed.Goals as goal

pub returns : goal.returns
returns c =
    let zoned : _ = λ (intervals : ℕ). by 3 3 (λ zones. body_splice c.args.edition c.args.devices intervals zones) in
    by_as _ _ 7 zoned c.interval_bits-width.ensures (moves-by c.interval_bits-width.result 7 c.next_field-intervals.result zoned c.next_field-intervals.ensures
    c.widen_field-q.ensures c.copy_zoned.ensures)
