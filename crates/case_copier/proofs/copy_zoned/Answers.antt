-- The count decides what follows.
use Rattle.writing.specs.CaseSplices.{body_splice}
use Rattle.bit_copier.specs.Moves.{moves-by-keep}
use Rattle.case_copier.proofs.copy_zoned.Goals as goal

pub returns : goal.returns
returns c =
    moves-by-keep 3 c.next_field-zones.result (λ zones. body_splice c.args.edition c.args.devices c.args.intervals zones) c.next_field-zones.ensures
    c.keep_field-q.ensures c.copy_body.ensures
