-- Three worths of a reserve, added.
use mathlib.Core.Logic.{inr}
use native.Mathlib.Omega.{arith}
use Rattle.money.proofs.off_reserves.Goals as goal

pub worth-nsc-requires : goal.worth-nsc-requires
worth-nsc-requires c = (c.requires.0.nsc, inr (omega (arith, c.requires.1.nsc)))

pub worth-rruoff-requires : goal.worth-rruoff-requires
worth-rruoff-requires c = (c.requires.0.rruoff, inr (omega (arith, c.requires.1.rruoff)))

pub worth-rrdoff-requires : goal.worth-rrdoff-requires
worth-rrdoff-requires c =
    (c.requires.0.rrdoff, inr (omega (arith, c.requires.1.rrdoff)))
