-- One behind the other.
use native.Mathlib.Omega.{arith}
use Rattle.wording.proofs.Writes.{behind}
use Rattle.wording.proofs.put_indexed.Goals as goal

pub returns : goal.returns
returns c =
    let p = c.put_number-at in
    behind p.ensures c.put_word.ensures (omega (arith, p.ensures.short))
