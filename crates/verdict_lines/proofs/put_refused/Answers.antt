-- Two numbers behind the word.
use native.Mathlib.Omega.{arith}
use Rattle.wording.proofs.Writes.{writes_as}
use Rattle.wording.proofs.Spelling.{refused-is}
use Rattle.verdict_lines.proofs.put_refused.Goals as goal

pub returns : goal.returns
returns c =
    let at-returned : _ = c in
    let at-number : _ = at-returned in
    let e : _ = at-number.args in
    writes_as (refused-is e.index e.s e.f at-number.number_of.ensures at-returned.returned_by.ensures) c.put_indexed.ensures (omega arith)
