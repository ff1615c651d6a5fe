-- The power tried is the nearest of the span.
use mathlib.Core.Path.{refl, ap, ◌∙◌}
use Prim.Native.Nat.{ℕ, ◌+◌}
use native.Mathlib.Omega.{arith}
use Rattle.mend_tries.specs.Tries.{inside, online-is, left-none, left-some, tries-none, tried-small, tries-found, tries-missed}
use Rattle.mend_tries.proofs.try_at.Goals as goal

pub overflow_add-k : goal.overflow_add-k
overflow_add-k c =
    omega (
      arith,
      inside c.args.front c.args.halves.now c.args.zones.now c.args.minima.now c.args.devices.now c.args.cells.now c.args.settings.now
          c.requires.0.plan-rows c.args.i c.args.t c.requires.1 c.requires.3 (ap (λ (z : ℕ). z + c.args.t) c.requires.2),
    )

pub returns-then-is_empty : goal.returns-then-is_empty
returns-then-is_empty c =
    tries-none c.args.front c.args.halves.now c.args.zones.now c.args.minima.now c.args.devices.now c.args.cells.now c.args.settings.now
    c.args.i c.args.t c.span_of-span.ensures (record { plan = refl; rows = c.requires.0.plan-rows })
    (left-none c.args.front c.args.halves.now c.args.zones.now c.args.minima.now c.args.devices.now c.args.cells.now c.args.settings.now
    c.args.i c.args.t c.span_of-span.ensures c.is_empty.ensures c.if-is_empty.true)

pub online_at-old-requires : goal.online_at-old-requires
online_at-old-requires c =
    inside c.args.front c.args.halves.now c.args.zones.now c.args.minima.now c.args.devices.now c.args.cells.now c.args.settings.now
    c.requires.0.plan-rows c.args.i c.args.t c.requires.1 c.requires.3 (ap (λ (z : ℕ). z + c.args.t) c.requires.2)

pub clamp-new-requires : goal.clamp-new-requires
clamp-new-requires c =
    (left-some c.args.front c.args.halves.now c.args.zones.now c.args.minima.now c.args.devices.now c.args.cells.now c.args.settings.now
    c.args.i c.args.t c.span_of-span.ensures c.is_empty.ensures c.if-is_empty.false)

pub overflow_cast-new : goal.overflow_cast-new
overflow_cast-new c =
    omega (
      arith,
      tried-small c.args.front c.args.halves.now c.args.zones.now c.args.minima.now c.args.devices.now c.args.cells.now
          c.args.settings.now c.args.i c.args.t c.span_of-span.ensures (left-some c.args.front c.args.halves.now c.args.zones.now
          c.args.minima.now c.args.devices.now c.args.cells.now c.args.settings.now c.args.i c.args.t c.span_of-span.ensures
          c.is_empty.ensures c.if-is_empty.false) (c.from.ensures ∙ c.online_at-old.ensures ∙ online-is c.args.front c.args.halves.now
          c.args.zones.now c.args.minima.now c.args.devices.now c.args.cells.now c.args.settings.now c.requires.0.plan-rows c.args.i c.args.t c.requires.1
          c.requires.3 (ap (λ (z : ℕ). z + c.args.t) c.requires.2)) c.clamp-new.ensures,
    )

pub try_power-requires : goal.try_power-requires
try_power-requires c = (
  record { case_rows = c.requires.0.case_rows; plan-rows = c.requires.0.plan-rows; starts-full = omega (arith, c.requires.0.starts-full); powers-full = omega (arith, c.requires.0.powers-full) },
  c.requires.1,
  c.requires.3,
  (ap (λ (z : ℕ). z + c.args.t) c.requires.2),
  tried-small c.args.front c.args.halves.now c.args.zones.now c.args.minima.now c.args.devices.now c.args.cells.now c.args.settings.now
      c.args.i c.args.t c.span_of-span.ensures
      (left-some c.args.front c.args.halves.now c.args.zones.now c.args.minima.now c.args.devices.now c.args.cells.now c.args.settings.now
      c.args.i c.args.t c.span_of-span.ensures
      c.is_empty.ensures c.if-is_empty.false)
      (c.from.ensures ∙ c.online_at-old.ensures ∙ online-is c.args.front c.args.halves.now
      c.args.zones.now c.args.minima.now c.args.devices.now c.args.cells.now c.args.settings.now c.requires.0.plan-rows c.args.i c.args.t c.requires.1
      c.requires.3 (ap (λ (z : ℕ). z + c.args.t) c.requires.2)) c.clamp-new.ensures,
)

pub returns-then-try_power : goal.returns-then-try_power
returns-then-try_power c =
    tries-found c.args.front c.args.halves.now c.args.zones.now c.args.minima.now c.args.devices.now c.args.cells.now c.args.settings.now
    c.args.i c.args.t c.span_of-span.ensures (left-some c.args.front c.args.halves.now c.args.zones.now c.args.minima.now c.args.devices.now
    c.args.cells.now c.args.settings.now c.args.i c.args.t c.span_of-span.ensures c.is_empty.ensures c.if-is_empty.false)
    (c.from.ensures ∙ c.online_at-old.ensures ∙ online-is c.args.front c.args.halves.now c.args.zones.now c.args.minima.now
    c.args.devices.now c.args.cells.now c.args.settings.now c.requires.0.plan-rows c.args.i c.args.t c.requires.1 c.requires.3
    (ap (λ (z : ℕ). z + c.args.t) c.requires.2)) c.clamp-new.ensures (rw c.if-try_power.true at c.try_power.ensures)

pub returns : goal.returns
returns c =
    tries-missed c.args.front c.args.halves.now c.args.zones.now c.args.minima.now c.args.devices.now c.args.cells.now c.args.settings.now
    c.args.i c.args.t c.span_of-span.ensures (left-some c.args.front c.args.halves.now c.args.zones.now c.args.minima.now c.args.devices.now
    c.args.cells.now c.args.settings.now c.args.i c.args.t c.span_of-span.ensures c.is_empty.ensures c.if-is_empty.false)
    (c.from.ensures ∙ c.online_at-old.ensures ∙ online-is c.args.front c.args.halves.now c.args.zones.now c.args.minima.now
    c.args.devices.now c.args.cells.now c.args.settings.now c.requires.0.plan-rows c.args.i c.args.t c.requires.1 c.requires.3
    (ap (λ (z : ℕ). z + c.args.t) c.requires.2)) c.clamp-new.ensures (rw c.if-try_power.false at c.try_power.ensures)
