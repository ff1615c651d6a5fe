-- Five worths of a reserve, added.
use mathlib.Core.Logic.{inr}
use native.Mathlib.Omega.{arith}
use Rattle.money.proofs.on_reserves.Goals as goal

pub worth-rgu-requires : goal.worth-rgu-requires
worth-rgu-requires c = (c.requires.0.rgu, inr (omega (arith, c.requires.1.rgu)))

pub worth-rgd-requires : goal.worth-rgd-requires
worth-rgd-requires c = (c.requires.0.rgd, inr (omega (arith, c.requires.1.rgd)))

pub worth-scr-requires : goal.worth-scr-requires
worth-scr-requires c =
    (c.requires.0.scr, inr (omega (arith, c.requires.1.scr)))

pub worth-rruon-requires : goal.worth-rruon-requires
worth-rruon-requires c =
    (c.requires.0.rruon, inr (omega (arith, c.requires.1.rruon)))

pub worth-rrdon-requires : goal.worth-rrdon-requires
worth-rrdon-requires c =
    (c.requires.0.rrdon, inr (omega (arith, c.requires.1.rrdon)))
