-- The groups in turn.
use mathlib.Core.Path.{sym, ◌∙◌}
use Rattle.numbers.specs.Tests.{never}
use Rattle.cell_held.specs.Held.{tests-hold, groups}
use Rattle.cell_held.proofs.held.Goals as goal

pub returns-then-not-state_held : goal.returns-then-not-state_held
returns-then-not-state_held c = let a : _ = c.args in
    (λ e. never e, λ h. sym c.if-not-state_held.true ∙ c.state_held.ensures.1 (groups a.d a.c a.s a.w h).state)

pub returns-then-not-ramps_held : goal.returns-then-not-ramps_held
returns-then-not-ramps_held c = let a : _ = c.args in
    (λ e. never e, λ h. sym c.if-not-ramps_held.true ∙ c.ramps_held.ensures.1 (groups a.d a.c a.s a.w h).ramps)

pub returns : goal.returns
returns c = let a : _ = c.args in (
  λ e. let h : _ = c.amounts_held.ensures.0 e in
      tests-hold a.d a.c a.s a.w (c.state_held.ensures.0 c.if-not-state_held.false)
      (c.ramps_held.ensures.0 c.if-not-ramps_held.false) h.0 h.1 h.2,
  λ h. let g : _ = groups a.d a.c a.s a.w h in c.amounts_held.ensures.1 (g.while-on, g.while-off, g.powers),
)
