-- One behind the other.
use native.Mathlib.Omega.{arith}
use Rattle.wording.proofs.Writes.{behind}
use Rattle.wording.proofs.put_figure.Goals as goal

pub returns : goal.returns
returns c = behind c.put_bytes-at.ensures c.put_number.ensures (omega arith)
