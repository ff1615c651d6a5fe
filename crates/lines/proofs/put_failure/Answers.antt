-- The error's number behind the words.
use native.Mathlib.Omega.{arith}
use Rattle.wording.proofs.Writes.{writes}
use Rattle.lines.proofs.put_failure.Goals as goal

pub returns : goal.returns
returns c = writes c.put_word.ensures (omega arith)
