use native.Mathlib.Omega.{arith}
use Prim.Native.Nat.{◌<◌}
use Rattle.std.proofs.lemmas.List.{get_or-take, length-take-le}
use Rattle.failing_rules.specs.Parts.{window_here, windows_here}
use Rattle.breach_entries.specs.Noted.{gather-start, gather-done}
use Rattle.breach_notes.specs.Bits.{window_bytes}
use Rattle.breach_notes.specs.Windows.{window-noted, window-room, window_more}
use Rattle.breach_notes.proofs.note_windows.Goals as goal

pub loop-w-init : goal.loop-w-init
loop-w-init c = gather-start _ _ _ _

pub note_if-n-requires : goal.note_if-n-requires
unfolding windows_here
note_if-n-requires c =
    let a = c.args in
    let few = c.requires.nstarts_le_most_windows in
    let h : c.loop-w.w < a.d.nstarts = omega (arith, length-take-le a.d.nstarts a.d.starts (omega arith)) in (
      window_bytes few.1 (omega (arith, h, few.0)) c.window_breach-b.ensures,
      window-room (window_here a.d a.settings.now a.starts.now a.i) c.loop-w.invariant h (window-noted a.d a.settings.now a.starts.now a.i c.loop-w.w
          (rw get_or-take at c.window_kept-kept.ensures) c.window_breach-b.ensures) c.requires.i_bound,
    )

pub loop-w-preserved : goal.loop-w-preserved
loop-w-preserved c =
    let a = c.args in
    let h : c.loop-w.w < a.d.nstarts = omega (arith, length-take-le a.d.nstarts a.d.starts (omega arith)) in
    window_more (window_here a.d a.settings.now a.starts.now a.i) c.loop-w.invariant h (window-noted a.d a.settings.now a.starts.now a.i c.loop-w.w
    (rw get_or-take at c.window_kept-kept.ensures) c.window_breach-b.ensures) c.note_if-n.ensures

pub returns : goal.returns
unfolding windows_here
returns c =
    let a = c.args in
    gather-done (window_here a.d a.settings.now a.starts.now a.i) _ c.loop-w.invariant (omega (arith, length-take-le a.d.nstarts a.d.starts (omega arith)))
