-- Limits, then powers, while on or off.
use native.Mathlib.Omega.{arith}
use mathlib.Core.Path.{sym, ◌∙◌}
use Rattle.numbers.specs.Tests.{never}
use Rattle.cell_held.specs.Held.{on_none, off-none}
use Rattle.cell_held.proofs.amounts_held.Goals as goal

pub returns-then-not-on_limits_held : goal.returns-then-not-on_limits_held
returns-then-not-on_limits_held c = let a : _ = c.args in (
  λ e. never e,
  λ h. sym c.if-not-on_limits_held.true ∙ c.on_limits_held.ensures.1 (record {
    while-on = h.0;
    while-off = h.1;
    none = on_none a.d a.c a.s a.w c.if-s-eq1.true h.1;
  }),
)

pub returns-then-not-off_limits_held : goal.returns-then-not-off_limits_held
returns-then-not-off_limits_held c = let a : _ = c.args in (
  λ e. never e,
  λ h. sym c.if-not-off_limits_held.true ∙ c.off_limits_held.ensures.1 (record {
    while-on = h.0;
    while-off = h.1;
    none = off-none a.d a.c a.s a.w (omega arith) h.0;
  }),
)
