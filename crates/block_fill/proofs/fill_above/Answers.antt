-- Without floors filling itself; else filling of what is left, and the floors added.
use native.Mathlib.Omega.{arith}
use mathlib.Core.Path.{ap, ◌∙◌}
use Prim.Native.Nat.{ℕ, ◌-◌}
use borrow.Author.Rules.{rules}
use Rattle.block_fill.specs.Above.{above-without, above-with, sums-fit}
use Rattle.block_fill.proofs.fill_above.Goals as goal

pub returns-then-least-eq0 : goal.returns-then-least-eq0
returns-then-least-eq0 c = let a : _ = c.args in
    above-without a.side a.p.0 a.floors a.caps a.prices c.requires.0 (omega arith) c.fill.ensures

pub with_floors-requires : goal.with_floors-requires
with_floors-requires c = let a : _ = c.args in
    sums-fit a.side a.p.0 a.floors a.caps a.prices c.requires.0 c.room_above-room.ensures
    (c.less-left.ensures ∙ ap (λ (n : ℕ). a.p.0 - n) c.sum_of-least.ensures) c.fill-more.ensures (search rules)

pub returns : goal.returns
returns c = let a : _ = c.args in
    above-with a.side a.p.0 a.floors a.caps a.prices c.requires.0 c.room_above-room.ensures
    (c.less-left.ensures ∙ ap (λ (n : ℕ). a.p.0 - n) c.sum_of-least.ensures) c.fill-more.ensures c.with_floors.ensures
