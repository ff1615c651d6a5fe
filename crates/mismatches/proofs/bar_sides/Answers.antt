use Rattle.std.proofs.Common.{refl, ◌∙◌}
use Rattle.mismatches.specs.Sides.{place, bar-first, bar-second, bars-start, bars-next}
use Rattle.mismatches.proofs.bar_sides.Goals as goal
use Rattle.mismatches.proofs.bar_sides.Goals.{then-bar_at-eq0, else-bar_at-eq0}

pub loop-i-init : goal.loop-i-init
loop-i-init c = bars-start _ _ _ _

pub loop-i-preserved : goal.loop-i-preserved
loop-i-preserved c =
    let h = c.loop-i in
    bars-next _ _ _ _ h.i h.invariant refl c.bar_at.ensures c.side_at-side.ensures refl (place c.requires h.i _ c.loop-i-test.true refl).power
    (elim c.if-bar_at-eq0.branch [
      | then-bar_at-eq0 w ↦ w.s-is ∙ bar-first h.s _ _ _ w.if-bar_at-eq0.true w.with_side-s.ensures
      | else-bar_at-eq0 w ↦ w.s-is ∙ bar-second h.s _ _ _ w.if-bar_at-eq0.false w.with_side-s-else-bar_at-eq0.ensures
    ])
