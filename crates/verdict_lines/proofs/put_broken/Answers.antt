-- Four numbers behind the word.
use native.Mathlib.Omega.{arith}
use Rattle.wording.proofs.Writes.{writes}
use Rattle.verdict_lines.proofs.put_broken.Goals as goal

pub returns : goal.returns
returns c = writes c.put_indexed.ensures (omega arith)
