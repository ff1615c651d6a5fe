-- The count decides what follows.
use Rattle.writing.specs.Splice.{times}
use Rattle.writing.specs.CaseSplices.{start_splice}
use Rattle.bit_copier.specs.Moves.{moves-by-keep}
use Rattle.device_copier.proofs.copy_starts.Goals as goal

pub returns : goal.returns
returns c =
    moves-by-keep 3 c.next_field-n.result (λ n. times n (start_splice c.args.edition)) c.next_field-n.ensures c.keep_field-q.ensures c.copy_each.ensures
