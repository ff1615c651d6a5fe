-- 8 where the sets do not fit, or more offers are lent than any case has.
use mathlib.Core.Path.{sym, ◌∙◌}
use native.Mathlib.Omega.{arith}
use Rattle.dispatches.specs.Cases.{from_one, ready, case-given, case-long, case-unfit}
use Rattle.dispatches.proofs.dispatch_case.Goals as goal

pub overflow_sub-t : goal.overflow_sub-t
overflow_sub-t c = let s : _ = c in
    let a : _ = s.args in from_one s.requires a.interval a.sets.now a.powers.now (sym c.sets_fit-fit.ensures ∙ c.if-fit.true)

pub dispatch_sets-requires : goal.dispatch_sets-requires
dispatch_sets-requires c = let s : _ = c in
    let a : _ = s.args in ready s.requires a.interval a.sets.now a.powers.now (sym c.sets_fit-fit.ensures
    ∙ c.if-fit.true) a.count c.if-count-le256.true

pub returns-then-count-le256 : goal.returns-then-count-le256
returns-then-count-le256 c =
    let s : _ = c in let a : _ = s.args in
    case-given s.requires a.interval a.sets.now a.powers.now a.all a.count a.target _ _ (sym c.sets_fit-fit.ensures
    ∙ c.if-fit.true) c.if-count-le256.true c.dispatch_sets.ensures

pub returns-else-count-le256 : goal.returns-else-count-le256
returns-else-count-le256 c =
    let s : _ = c in let a : _ = s.args in
    case-long s.requires a.interval a.sets.now a.powers.now a.all a.count a.target (sym c.sets_fit-fit.ensures
    ∙ c.if-fit.true) (omega (arith, c.if-count-le256.false))

pub returns-else-fit : goal.returns-else-fit
returns-else-fit c = let s : _ = c in
    let a : _ = s.args in case-unfit s.requires a.interval a.sets.now a.powers.now a.all a.count a.target (sym c.sets_fit-fit.ensures ∙ c.if-fit.false)
