-- One behind the other.
use native.Mathlib.Omega.{arith}
use lib.ListN.{length-append}
use Rattle.wording.proofs.Writes.{behind}
use Rattle.wording.proofs.put_surplus.Goals as goal

pub returns : goal.returns
returns c =
    let ending : _ = c in
    let sign : _ = ending.before in
    let p = sign.put_number-at in
    let q = sign.put_bytes-at in
    let r = ending.put_number-at-2 in
    behind (behind (behind p.ensures q.ensures (omega (arith, p.ensures.short))) r.ensures (simp length-append (omega (arith, p.ensures.short, q.ensures.short))))
    c.put_bytes.ensures (simp length-append (omega (arith, p.ensures.short, q.ensures.short, r.ensures.short)))
