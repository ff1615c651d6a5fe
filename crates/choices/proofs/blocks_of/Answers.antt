-- In each case of `on`.
use native.Mathlib.Omega.{arith}
use Rattle.choices.specs.Blocks.{while-on, while-off}
use Rattle.choices.proofs.blocks_of.Goals as goal

pub returns-then-on-eq1 : goal.returns-then-on-eq1
returns-then-on-eq1 c = let a : _ = c.args in while-on a.side a.p.0 a.floors a.caps a.prices c.if-on-eq1.true c.fill_above.ensures

pub returns-else-on-eq1 : goal.returns-else-on-eq1
returns-else-on-eq1 c = let a : _ = c.args in while-off a.side a.p.0 a.floors a.caps a.prices (omega arith) c.fill.ensures
