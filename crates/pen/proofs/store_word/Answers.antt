use mathlib.Core.Path.{◌∙◌}
use native.Mathlib.Omega.{arith}
use Rattle.pen.proofs.Words.{word-stored}
use Rattle.pen.proofs.store_word.Goals as goal

pub returns : goal.returns
returns c = word-stored c.args.buf.now _ c.args.j _ c.args.v (omega arith) (omega arith) (c.copy_from_slice.ensures.after ∙ c.to_be_bytes.ensures)
