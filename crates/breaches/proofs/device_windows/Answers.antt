use native.Mathlib.Omega.{arith}
use Prim.Native.Nat.{◌<◌}
use Rattle.std.proofs.Common.{refl, ap, not}
use Rattle.std.proofs.lemmas.List.{get_or-take, length-take-le}
use Rattle.std.specs.Prelude.{Option, Some, None}
use Rattle.breaches.specs.First.{loop-start, loop-held, loop-broken, loop-done}
use Rattle.failing_rules.specs.Parts.{window_here, windows_here}
use Rattle.breaches.specs.Parts.{window-held, window-broken}
use Rattle.breaches.proofs.device_windows.Goals as goal

pub loop-w-init : goal.loop-w-init
loop-w-init c = loop-start _ _

pub returns-then-not-window_kept : goal.returns-then-not-window_kept
unfolding windows_here
returns-then-not-window_kept c = let a = c.args in
    let h : c.loop-w.w < a.d.nstarts = omega (arith, length-take-le a.d.nstarts a.d.starts (omega arith)) in
    loop-broken (window_here a.d a.settings.now a.starts.now a.i) h c.loop-w.invariant
    (window-broken a.d a.settings.now a.starts.now a.i c.loop-w.w
    (rw get_or-take at c.window_kept.ensures) (ap not c.if-not-window_kept.true) (ap Some c.window_breach.ensures)) refl

pub loop-w-preserved : goal.loop-w-preserved
loop-w-preserved c = let a = c.args in
    let h : c.loop-w.w < a.d.nstarts = omega (arith, length-take-le a.d.nstarts a.d.starts (omega arith)) in
    loop-held (window_here a.d a.settings.now a.starts.now a.i) h c.loop-w.invariant
    (window-held a.d a.settings.now a.starts.now a.i c.loop-w.w
    (rw get_or-take at c.window_kept.ensures) (ap not c.if-not-window_kept.false)) refl

pub returns : goal.returns
unfolding windows_here
returns c = let a = c.args in
    loop-done (window_here a.d a.settings.now a.starts.now a.i) (omega (arith, length-take-le a.d.nstarts a.d.starts (omega arith))) c.loop-w.invariant
