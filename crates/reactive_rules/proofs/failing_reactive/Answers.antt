-- Where nothing is reactive each rule holds; else the figures are those of interval t.
use mathlib.Core.Path.{ap, ◌∙◌}
use Rattle.cell_bounds.specs.Word.{failing_word}
use Rattle.reactive_rules.specs.Rules.{idle-here, tests-here}
use Rattle.reactive_rules.proofs.failing_reactive.Goals as goal

pub returns-then-idle_at : goal.returns-then-idle_at
returns-then-idle_at c = let a : _ = c.args in
    idle-here a.d a.cells.now a.settings.now a.starts.now a.powers.now a.t (c.idle_at.ensures c.if-idle_at.true)

pub returns : goal.returns
returns c = let a : _ = c.args in
    c.failing_figures.ensures ∙ ap failing_word (tests-here a.d a.cells.now a.settings.now a.starts.now a.powers.now a.t
    c.reactive_cell_at-c.ensures c.reactive_at-x.ensures c.bracket_given-n.ensures.0)
