use native.Mathlib.Omega.{arith}
use mathlib.Core.Path.{◌≡◌, refl, sym, ◌∙◌}
use lib.ListN.{length}
use Rattle.numbers.specs.Tests.{never}
use Rattle.records.specs.Views.{system_in, plan_in}
use Rattle.breaches.specs.Day.{hold-none, hold-next}
use Rattle.breaches.proofs.devices_held.Goals as goal

pub loop-i-init : goal.loop-i-init
loop-i-init c = hold-none _ _ _

pub returns-then-not-device_held : goal.returns-then-not-device_held
returns-then-not-device_held c = (λ e. never e, λ k. sym c.if-not-device_held.true ∙ c.device_held.ensures.1 (k.at c.loop-i.i c.loop-i-test.true))

pub loop-i-preserved : goal.loop-i-preserved
loop-i-preserved c = let a : _ = c.args in
    hold-next (system_in a.halves.now a.zones.now a.minima.now a.devices.now a.cells.now)
    (plan_in (length a.devices.now) (length a.halves.now) a.settings.now) c.loop-i.invariant (c.device_held.ensures.0 c.if-not-device_held.false)

pub returns : goal.returns
returns c = let a : _ = c.args in
    let z : c.loop-i.i ≡ length a.devices.now = omega arith in
    (λ e. rw z at c.loop-i.invariant, λ k. refl)
