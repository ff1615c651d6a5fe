use mathlib.Core.Path.{◌∙◌, sym}
use native.Mathlib.Omega.{arith}
use Rattle.pen.proofs.Stores.{store-more, store-none}
use Rattle.pen.proofs.store.Goals as goal

pub loop-j-preserved : goal.loop-j-preserved
loop-j-preserved c = let l = c.loop-j in store-more l.buf c.args.first l.j l.rest (omega arith) ∙ l.invariant

pub returns : goal.returns
returns c = let l = c.loop-j in sym (store-none l.buf c.args.first l.j l.rest (omega arith)) ∙ l.invariant
