use native.Mathlib.Omega.{arith}
use Rattle.start_windows.specs.Windows.{reached-next, counted-end}
use Rattle.start_windows.proofs.starts_in.Goals as goal

pub returns-then-w-starts : goal.returns-then-w-starts
returns-then-w-starts c = let h : _ = c.loop-t.invariant in counted-end _ _ _ _ c.requires h.within (λ k. c.if-w-starts.true) h.counted

pub loop-t-preserved : goal.loop-t-preserved
loop-t-preserved c = reached-next _ _ _ _ c.requires c.loop-t-test.true c.loop-t.invariant c.if-w-starts.false c.started_at-counted.ensures

pub returns : goal.returns
returns c = let h : _ = c.loop-t.invariant in counted-end _ _ _ _ c.requires h.within (λ k. absurd (omega (arith, k, c.loop-t-test.false))) h.counted
