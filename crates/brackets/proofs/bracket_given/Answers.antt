-- Where the power is the online power, n is u.
use native.Mathlib.Omega.{arith}
use mathlib.Core.Path.{sym, ◌∙◌}
use Rattle.brackets.specs.Counts.{bracket-on}
use Rattle.brackets.proofs.bracket_given.Goals as goal

pub returns-then-power-online : goal.returns-then-power-online
returns-then-power-online c = let k : _ = c in let s : _ = k in let a : _ = s.args in (
  c.on_at.ensures
      ∙ bracket-on a.r a.cells.now a.settings.now a.starts.now a.t (sym k.online_at-online.ensures ∙ sym c.if-power-online.true ∙ s.requires.2),
  omega (arith, c.on_at.ensures, s.requires.0.on a.t s.requires.1),
)
