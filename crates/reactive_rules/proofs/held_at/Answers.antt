-- The figures are those of interval t.
use mathlib.Core.Path.{◌≡◌, subst}
use mathlib.Core.Logic.{◌↔◌}
use mathlib.Core.List.{List, []}
use mathlib.Core.Bool.{Bool, true}
use Prim.Native.Nat.{ℕ}
use Rattle.model.specs.Breaches.{failing}
use Rattle.reactive_rules.specs.Rules.{tests-here}
use Rattle.reactive_rules.proofs.held_at.Goals as goal

pub returns : goal.returns
returns c = let a : _ = c.args in
    subst (λ (l : List (ℕ × Bool)). (c.figures_held.result ≡ true) ↔ (failing l ≡ [])) (tests-here a.d a.cells.now a.settings.now a.starts.now a.powers.now a.t
    c.reactive_cell_at-c.ensures c.reactive_at-x.ensures c.bracket_given-n.ensures.0) c.figures_held.ensures
