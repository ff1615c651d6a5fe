-- The fault's number behind the word.
use native.Mathlib.Omega.{arith}
use Rattle.wording.proofs.Writes.{writes_as}
use Rattle.wording.proofs.Spelling.{framing-is}
use Rattle.lines.proofs.put_framing.Goals as goal

pub returns : goal.returns
returns c =
    let at-number : _ = c in
    writes_as (framing-is at-number.args.f at-number.number_of.ensures) c.put_word.ensures (omega arith)
