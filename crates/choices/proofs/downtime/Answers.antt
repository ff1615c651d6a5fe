use mathlib.Core.Path.{◌≡◌, ap, sym, ◌∙◌}
use native.Mathlib.Omega.{arith}
use Prim.Native.Nat.{ℕ, ◌+◌, ◌-◌}
use lib.ListN.{get_or}
use Rattle.row_places.specs.Figures.{device_at}
use Rattle.choices.specs.Rests.{off_next, off-found, off-none}
use Rattle.choices.proofs.downtime.Goals as goal

pub returns-then-on_at-eq1 : goal.returns-then-on_at-eq1
returns-then-on_at-eq1 c = let a : _ = c.args in let l : _ = c.loop-e in
    let z : l.e - 1 + 1 ≡ l.e = omega arith in
    off-found (device_at a.devices.now a.i) a.settings.now a.starts.now a.t l.e c.loop-e-test.true (sym c.on_at.ensures ∙ c.if-on_at-eq1.true)
    l.invariant (c.saturating_sub.ensures ∙ ap (λ (n : ℕ). get_or a.starts.now a.t 0 - get_or a.starts.now n 0) z)

pub loop-e-preserved : goal.loop-e-preserved
loop-e-preserved c = let a : _ = c.args in let l : _ = c.loop-e in
    off_next (device_at a.devices.now a.i) a.settings.now a.starts.now a.t l.e c.loop-e-test.true
    (λ e. c.if-on_at-eq1.false (c.on_at.ensures ∙ e)) l.invariant

pub returns : goal.returns
returns c = let a : _ = c.args in
    off-none (device_at a.devices.now a.i) a.settings.now a.starts.now a.t c.loop-e.e (omega (arith, c.loop-e-test.false))
    c.loop-e.invariant c.initial_rest.ensures.0
