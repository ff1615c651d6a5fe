-- The second try stands on the plan that the first left.
use mathlib.Core.Path.{ap, ◌∙◌}
use Prim.Native.Nat.{ℕ, ◌+◌}
use native.Mathlib.Omega.{arith}
use Rattle.mend_plans.specs.Tries.{both-done}
use Rattle.mend_tries.specs.Tries.{inside, online-is}
use Rattle.mend_plans.proofs.both.Goals as goal

pub overflow_add-a : goal.overflow_add-a
overflow_add-a c =
    omega (
      arith,
      inside c.args.front c.args.halves.now c.args.zones.now c.args.minima.now c.args.devices.now c.args.cells.now c.args.settings.now
          c.requires.0.plan-rows c.args.i c.args.t c.requires.1 (omega (arith, c.requires.3)) (ap (λ (z : ℕ). z + c.args.t) c.requires.2),
    )

pub online_at-before-requires : goal.online_at-before-requires
online_at-before-requires c =
    inside c.args.front c.args.halves.now c.args.zones.now c.args.minima.now c.args.devices.now c.args.cells.now c.args.settings.now
    c.requires.0.plan-rows c.args.i c.args.t c.requires.1 (omega (arith, c.requires.3)) (ap (λ (z : ℕ). z + c.args.t) c.requires.2)

pub overflow_add-a-2 : goal.overflow_add-a-2
overflow_add-a-2 c =
    omega (
      arith,
      inside c.args.front c.args.halves.now c.args.zones.now c.args.minima.now c.args.devices.now c.args.cells.now c.args.settings.now
          c.requires.0.plan-rows c.args.i (c.args.t + 1) c.requires.1 (omega (arith, c.requires.3)) (ap (λ (z : ℕ). z + (c.args.t + 1)) c.requires.2),
    )

pub online_at-now-requires : goal.online_at-now-requires
online_at-now-requires c =
    inside c.args.front c.args.halves.now c.args.zones.now c.args.minima.now c.args.devices.now c.args.cells.now c.args.settings.now
    c.requires.0.plan-rows c.args.i (c.args.t + 1) c.requires.1 (omega (arith, c.requires.3)) (ap (λ (z : ℕ). z + (c.args.t + 1)) c.requires.2)

pub try_at-first-requires : goal.try_at-first-requires
try_at-first-requires c = (c.requires.0, c.requires.1, c.requires.2, omega (arith, c.requires.3))

pub try_at-second-requires : goal.try_at-second-requires
try_at-second-requires c = (
  record {
    case_rows = c.requires.0.case_rows;
    plan-rows = c.try_at-first.ensures.same.rows;
    starts-full = omega
        (arith, c.requires.0.starts-full);
    powers-full = omega (arith, c.requires.0.powers-full);
  },
  c.requires.1,
  c.requires.2,
  c.requires.3,
)

pub nearer-requires : goal.nearer-requires
nearer-requires c =
    (omega (arith, c.requires.3, c.requires.0.case_rows.few-intervals), omega (arith, c.requires.1, c.requires.0.case_rows.few-devices), omega arith)

pub returns : goal.returns
returns c =
    both-done c.args.front c.args.halves.now c.args.zones.now c.args.minima.now c.args.devices.now c.args.cells.now c.args.settings.now
    c.args.i c.args.t (c.online_at-before.ensures ∙ online-is c.args.front c.args.halves.now c.args.zones.now c.args.minima.now
    c.args.devices.now c.args.cells.now c.args.settings.now c.requires.0.plan-rows c.args.i c.args.t c.requires.1 (omega (arith, c.requires.3))
    (ap (λ (z : ℕ). z + c.args.t) c.requires.2)) (c.online_at-now.ensures ∙ online-is c.args.front c.args.halves.now c.args.zones.now
    c.args.minima.now c.args.devices.now c.args.cells.now c.args.settings.now c.requires.0.plan-rows c.args.i (c.args.t + 1) c.requires.1
    (omega (arith, c.requires.3)) (ap (λ (z : ℕ). z + (c.args.t + 1)) c.requires.2)) c.try_at-first.ensures c.try_at-second.ensures c.nearer.ensures
