-- The parts are those of device i.
use native.Mathlib.Omega.{arith}
use mathlib.Core.Path.{refl, ap, ◌∙◌}
use Rattle.breaches.specs.First.{first}
use Rattle.failing_rules.specs.Parts.{place, few-windows, own-timed, windows-are}
use Rattle.breaches.proofs.window_check.Goals as goal

pub overflow_mul-a : goal.overflow_mul-a
overflow_mul-a c = omega (arith, place c.requires.0 c.args.i _ c.requires.1 refl)

pub overflow_add-e : goal.overflow_add-e
overflow_add-e c = let a : _ = c.args in
    omega (arith, place c.requires.0 a.i _ c.requires.1 refl)

pub offset_bounds-settings-a : goal.offset_bounds-settings-a
offset_bounds-settings-a c = let a : _ = c.args in
    omega (arith, place c.requires.0 a.i _ c.requires.1 refl)

pub slice_bounds-device_windows-end : goal.slice_bounds-device_windows-end
slice_bounds-device_windows-end c = let a : _ = c.args in
    omega (arith, place c.requires.0 a.i _ c.requires.1 refl)

pub device_windows-requires : goal.device_windows-requires
device_windows-requires c = let a : _ = c.args in let r : _ = c.requires.0 in (
  few-windows c.requires.0 a.i _ c.requires.1 refl c.device_at-d.ensures,
  omega (arith, r.case_rows.few-devices),
  own-timed c.requires.0 a.i _ c.requires.1 refl,
)

pub returns : goal.returns
returns c = let a : _ = c.args in
    c.device_windows.ensures ∙ ap first (windows-are c.requires.0 a.i _ c.requires.1 refl c.device_at-d.ensures)
