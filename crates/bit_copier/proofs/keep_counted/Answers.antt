-- The count decides how many bits follow.
use Rattle.bit_copier.specs.Moves.{counted-run}
use Rattle.bit_copier.proofs.keep_counted.Goals as goal

pub returns : goal.returns
returns c = let r = c in let k = r in
    let n = k in counted-run _ _ n.next_field-n.ensures k.keep_field-counted.ensures r.keep_run.ensures
