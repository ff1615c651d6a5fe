-- The reserves of the other state cost nothing.
use mathlib.Core.Path.{◌∙◌}
use Rattle.money.specs.Costs.{on-eight, off-eight}
use Rattle.money.proofs.reserves_rate.Goals as goal

pub returns-then-on-eq1 : goal.returns-then-on-eq1
returns-then-on-eq1 c =
    let a : _ = c.args in
    (c.on_reserves.ensures.0 ∙ on-eight a.on a.b a.a c.requires.2 c.if-on-eq1.true, c.on_reserves.ensures.1)

pub returns-else-on-eq1 : goal.returns-else-on-eq1
returns-else-on-eq1 c =
    let a : _ = c.args in
    (c.off_reserves.ensures.0 ∙ off-eight a.on a.b a.a c.requires.2 c.if-on-eq1.false, c.off_reserves.ensures.1)
