-- Four worths, added.
use native.Mathlib.Omega.{arith}
use lib.ListN.{get_or}
use Prim.Native.Nat.{ℕ, ◌*◌}
use Rattle.records.specs.Views.{number_of}
use Rattle.money.specs.Bounds.{worth_most}
use Rattle.money.specs.Worth.{four-rates}
use Rattle.money.proofs.blocks_worth.Goals as goal

pub worth-a-requires : goal.worth-a-requires
worth-a-requires c = (c.requires.small 0 (omega arith), c.requires.priced 0 (omega arith))

pub worth-b-requires : goal.worth-b-requires
worth-b-requires c =
    (c.requires.small 1 (omega arith), c.requires.priced 1 (omega arith))

pub worth-c-requires : goal.worth-c-requires
worth-c-requires c =
    (c.requires.small 2 (omega arith), c.requires.priced 2 (omega arith))

pub worth-d-requires : goal.worth-d-requires
worth-d-requires c =
    (c.requires.small 3 (omega arith), c.requires.priced 3 (omega arith))

pub returns : goal.returns
returns c =
    let a : _ = c.args in let at : ℕ → ℕ = λ k. get_or a.kept k 0 * number_of a.powers k in
    four-rates worth_most (at 0) (at 1) (at 2) (at 3) c.worth-a.ensures c.worth-b.ensures c.worth-c.ensures c.worth-d.ensures
    c.plus.ensures c.plus-2.ensures c.plus-3.ensures
