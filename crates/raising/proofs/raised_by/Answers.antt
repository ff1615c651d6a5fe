use native.Mathlib.Omega.{arith}
use Rattle.raising.proofs.Raising.{step_is}
use Rattle.raising.proofs.raised_by.Goals as goal

pub returns : goal.returns
returns c =
    let a = c.args in
    step_is a.r a.o a.lo a.hi _ (omega arith)
