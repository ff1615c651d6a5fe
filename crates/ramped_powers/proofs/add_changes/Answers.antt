use Rattle.std.proofs.Common.{arith, refl, rules}
use Rattle.ramped_powers.specs.Changes.{before-next, grown-none, grown-low, grown-more, grown-all}
use Rattle.ramped_powers.proofs.add_changes.Goals as goal

pub loop-e-init : goal.loop-e-init
loop-e-init c = (refl, grown-none _ _)

pub add_change-requires : goal.add_change-requires
add_change-requires c =
    let p = c.requires in
    let h = c.loop-e.invariant in
    (p.0, search rules, p.2, omega (arith, h.1.long, p.3.long, p.1.same), grown-low _ _ _ _ p.0 p.1 p.3 c.loop-e-test.true h.1)

pub loop-e-preserved : goal.loop-e-preserved
loop-e-preserved c =
    let p = c.requires in
    let h = c.loop-e.invariant in
    (before-next c.args.r.on0 c.args.settings.now c.loop-e.e c.on_at-on.ensures, grown-more _ _ _ _ p.0 p.1 p.3 h.0 c.on_at-on.ensures h.1 c.add_change.ensures)

pub returns : goal.returns
returns c = let p = c.requires in grown-all _ _ _ _ p.0 p.1 p.3 (omega arith) (omega arith) c.loop-e.invariant.1
