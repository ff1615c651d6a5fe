-- Where there is no room nothing is stored.
use mathlib.Core.Path.{sym}
use native.Mathlib.Omega.{arith}
use lib.Seq.{set_out}
use Rattle.figure_reader.proofs.store.Goals as goal

pub returns-else-k-table : goal.returns-else-k-table
returns-else-k-table c = sym (set_out _ _ _ (omega arith))
