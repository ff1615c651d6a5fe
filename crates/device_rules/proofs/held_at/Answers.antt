-- The records are those of interval t, each time they are read.
use mathlib.Core.Path.{sym, ◌∙◌}
use Rattle.numbers.specs.Tests.{never}
use Rattle.device_rules.specs.Groups.{groups-here, state-here, ramps-here, amounts-here}
use Rattle.device_rules.proofs.held_at.Goals as goal

pub returns-then-not-state_held : goal.returns-then-not-state_held
returns-then-not-state_held c = (
  λ e. never e,
  λ h. sym c.if-not-state_held.true ∙ c.state_held.ensures.1
      (groups-here _ _ _ _ _ _ _ _ c.cell_at-c1.ensures c.setting_at-s1.ensures c.moment_at-w.ensures h).state,
)

pub returns-then-not-ramps_held : goal.returns-then-not-ramps_held
returns-then-not-ramps_held c = (
  λ e. never e,
  λ h. sym c.if-not-ramps_held.true ∙ c.ramps_held.ensures.1
      (groups-here _ _ _ _ _ _ _ _ c.cell_at-c2.ensures c.setting_at-s2.ensures c.moment_at-w.ensures h).ramps,
)

pub returns : goal.returns
returns c = (
  λ e. amounts-here _ _ _ _ _ _ _ _ c.cell_at-c3.ensures c.setting_at-s3.ensures c.moment_at-w.ensures (c.amounts_held.ensures.0 e)
      (state-here _ _ _ _ _ _ _ _ c.cell_at-c1.ensures c.setting_at-s1.ensures c.moment_at-w.ensures (c.state_held.ensures.0 c.if-not-state_held.false))
      (ramps-here _ _ _ _ _ _ _ _ c.cell_at-c2.ensures c.setting_at-s2.ensures c.moment_at-w.ensures (c.ramps_held.ensures.0 c.if-not-ramps_held.false)),
  λ h. let g : _ = groups-here _ _ _ _ _ _ _ _ c.cell_at-c3.ensures c.setting_at-s3.ensures c.moment_at-w.ensures h in
      c.amounts_held.ensures.1 (g.while-on, g.while-off, g.powers),
)
