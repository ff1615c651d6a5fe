use mathlib.Core.Path.{◌∙◌}
use native.Mathlib.Omega.{arith}
use Rattle.bits.proofs.Laws.{eight}
use Rattle.bits.proofs.word_at.Goals as goal

pub returns : goal.returns
returns c = c.from_be_bytes.ensures ∙ eight c.args.s.now c.args.j _ (omega arith) (λ i. (c.type_inv.s i).fits)
