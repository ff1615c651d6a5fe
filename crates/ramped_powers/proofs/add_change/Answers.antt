-- Whether the device starts, stops or neither.
use Rattle.ramped_powers.specs.Changes.{started-adds, stopped-adds, kept-adds}
use Rattle.ramped_powers.proofs.add_change.Goals as goal

pub returns-then-before-on : goal.returns-then-before-on
returns-then-before-on c = started-adds _ _ _ _ _ _ c.if-before-on.true c.pmin_at-power.ensures c.add_before.ensures

pub returns-then-on-before : goal.returns-then-on-before
returns-then-on-before c = stopped-adds _ _ _ _ _ _ c.if-on-before.true c.leaves_at-power.ensures c.requires.3 c.add_after.ensures

pub returns-else-on-before : goal.returns-else-on-before
returns-else-on-before c = kept-adds _ _ _ _ _ _ _ c.if-before-on.false c.if-on-before.false
