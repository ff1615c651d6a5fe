use mathlib.Core.Path.{ap, ◌∙◌}
use Rattle.std.specs.Prelude.{Option, Some, None}
use Rattle.breaches.specs.Bits.{bits-start, bits-found, bits-next, bits-done}
use Rattle.breaches.proofs.first_in.Goals as goal

pub loop-rule-init : goal.loop-rule-init
loop-rule-init c = bits-start _ _ _

pub returns-then-rest-eq1 : goal.returns-then-rest-eq1
returns-then-rest-eq1 c = ap Some c.cell_breach.ensures ∙ bits-found _ _ _ c.loop-rule-test.true c.loop-rule.invariant c.if-rest-eq1.true

pub loop-rule-preserved : goal.loop-rule-preserved
loop-rule-preserved c = bits-next _ _ _ c.loop-rule-test.true c.loop-rule.invariant c.if-rest-eq1.false

pub returns : goal.returns
returns c = bits-done _ _ _ c.loop-rule-test.false c.loop-rule.invariant
