-- One behind the other.
use native.Mathlib.Omega.{arith}
use lib.ListN.{length-append}
use Rattle.wording.proofs.Writes.{behind}
use Rattle.wording.proofs.put_word.Goals as goal

pub returns : goal.returns
returns c =
    let p = c.put_bytes-at in
    let q = c.put_figures-at in
    behind (behind p.ensures q.ensures (omega arith)) c.put_bytes.ensures (simp length-append (omega (arith, p.ensures.short, q.ensures.short)))
