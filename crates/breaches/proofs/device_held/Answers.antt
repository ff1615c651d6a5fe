-- The parts are those of device i: its intervals, their reactive rules, then its windows.
use native.Mathlib.Omega.{arith}
use mathlib.Core.Path.{refl, sym, ap, ◌∙◌}
use Rattle.numbers.specs.Tests.{never}
use Rattle.breaches.specs.First.{first, none_first, broken-first}
use Rattle.failing_rules.specs.Parts.{place, all_fit, all-reactive-fit, none_here, here-held, here-reactive, few-windows, own-timed, windows-are}
use Rattle.breaches.proofs.device_held.Goals as goal

pub overflow_mul-a : goal.overflow_mul-a
overflow_mul-a c = omega (arith, place c.requires.0 c.args.i _ c.requires.1 refl)

pub overflow_add-e : goal.overflow_add-e
overflow_add-e c = omega (arith, place c.requires.0 c.args.i _ c.requires.1 refl)

pub offset_bounds-cells-a : goal.offset_bounds-cells-a
offset_bounds-cells-a c = omega (arith, place c.requires.0 c.args.i _ c.requires.1 refl)

pub slice_bounds-own_cells-end : goal.slice_bounds-own_cells-end
slice_bounds-own_cells-end c = omega (arith, place c.requires.0 c.args.i _ c.requires.1 refl)

pub offset_bounds-settings-a : goal.offset_bounds-settings-a
offset_bounds-settings-a c = omega (arith, place c.requires.0 c.args.i _ c.requires.1 refl)

pub slice_bounds-own-end : goal.slice_bounds-own-end
slice_bounds-own-end c = omega (arith, place c.requires.0 c.args.i _ c.requires.1 refl)

pub offset_bounds-powers-a : goal.offset_bounds-powers-a
offset_bounds-powers-a c = omega (arith, place c.requires.0 c.args.i _ c.requires.1 refl)

pub slice_bounds-own_powers-end : goal.slice_bounds-own_powers-end
slice_bounds-own_powers-end c = omega (arith, place c.requires.0 c.args.i _ c.requires.1 refl)

pub held_all-requires : goal.held_all-requires
held_all-requires c = all_fit c.requires.0 c.args.i _ c.requires.1 refl c.device_at-d.ensures c.bounds_of-b.ensures

pub returns-then-not-held_all : goal.returns-then-not-held_all
returns-then-not-held_all c = (
  λ e. never e,
  λ k. sym c.if-not-held_all.true ∙ c.held_all.ensures.1 (
      here-held c.requires.0 c.args.i _ c.requires.1 refl c.device_at-d.ensures c.bounds_of-b.ensures k.cells),
)

pub reactive_held-requires : goal.reactive_held-requires
reactive_held-requires c = all-reactive-fit c.requires.0 c.args.i _ c.requires.1 refl c.device_at-d.ensures
    c.bounds_of-b.ensures c.reactive_bounds_of-reactive.ensures

pub returns-then-not-reactive_held : goal.returns-then-not-reactive_held
returns-then-not-reactive_held c = (
  λ e. never e,
  λ k. sym c.if-not-reactive_held.true ∙ c.reactive_held.ensures.1 (
      here-reactive c.requires.0 c.args.i _ c.requires.1 refl c.device_at-d.ensures
      c.bounds_of-b.ensures c.reactive_bounds_of-reactive.ensures k.cells),
)

pub device_windows-r-requires : goal.device_windows-r-requires
device_windows-r-requires c = (
  few-windows c.requires.0 c.args.i _ c.requires.1 refl c.device_at-d.ensures,
  omega (arith, c.requires.0.case_rows.few-devices),
  own-timed c.requires.0 c.args.i _ c.requires.1 refl,
)

pub returns-in_default : goal.returns-in_default
returns-in_default c = (
  λ e. never e,
  λ k. broken-first _ (c.device_windows-r.ensures ∙ ap first (windows-are c.requires.0 c.args.i _ c.requires.1 refl
      c.device_at-d.ensures)) c.in_default.is k.windows,
)

pub returns : goal.returns
returns c = (
  λ e. record {
    cells = none_here c.requires.0 c.args.i _ c.requires.1 refl c.device_at-d.ensures
        c.bounds_of-b.ensures
        c.reactive_bounds_of-reactive.ensures
        (c.held_all.ensures.0 c.if-not-held_all.false)
        (c.reactive_held.ensures.0 c.if-not-reactive_held.false);
    windows = none_first _ (c.device_windows-r.ensures ∙ ap first (windows-are c.requires.0 c.args.i _ c.requires.1 refl
        c.device_at-d.ensures)) c.in-None.is;
  },
  λ k. refl,
)
