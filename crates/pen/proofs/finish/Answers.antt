use native.Mathlib.Omega.{arith}
use Rattle.pen.proofs.Words.{ends}
use Rattle.pen.proofs.finish.Goals as goal

pub returns : goal.returns
returns c = let a = c.args in
    ends a.p a.buf.now _ c.requires.0 (omega arith) c.store.ensures
