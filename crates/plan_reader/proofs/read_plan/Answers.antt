-- Every field, then the end; what passes is in its ranges.
use Rattle.std.proofs.Math.Path.{refl}
use Rattle.message_ends.specs.Ended.{whole-inside, whole-ended}
use Rattle.plan_reader.proofs.Whole.{plan-natural, plan-done, failed-exits}
use borrow.Author.Rules.{rules}
use Rattle.plan_reader.proofs.read_plan.Goals as goal

pub returns-in_err-p : goal.returns-in_err-p
returns-in_err-p c =
    let a = c.args in
    plan-done a.edition a.devices a.intervals _ _ (search rules)
    (failed-exits (plan-natural a.edition a.devices a.intervals) _ _ _ c.from_residual.ensures c.in_err-p.ensures)

pub finish-requires : goal.finish-requires
finish-requires c =
    let a = c.args in
    whole-inside (plan-natural a.edition a.devices a.intervals) _ _ c.in_ok-p.ensures refl

pub returns : goal.returns
returns c =
    let a = c.args in
    plan-done a.edition a.devices a.intervals _ _ (search rules)
    (whole-ended (plan-natural a.edition a.devices a.intervals) _ _ c.in_ok-p.ensures refl c.finish.ensures)
