-- A product of small figures, or of nothing.
use native.Mathlib.Omega.{arith}
use Rattle.money.specs.Worth.{worth-small}
use Rattle.money.proofs.worth.Goals as goal

pub returns : goal.returns
returns c =
    let a : _ = c.args in (c.at.ensures, omega (arith, c.at.ensures, worth-small a.p.0 a.price c.requires.0 c.requires.1))
