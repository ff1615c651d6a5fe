-- The records are those of interval t.
use mathlib.Core.Path.{ap, ◌∙◌}
use mathlib.Core.List.{List}
use mathlib.Core.Bool.{Bool}
use Prim.Native.Nat.{ℕ}
use Rattle.cell_bounds.specs.Word.{failing_word}
use Rattle.moments.specs.Moments.{tests_at, same_tests}
use Rattle.device_rules.proofs.failing_at.Goals as goal

pub returns : goal.returns
unfolding tests_at
returns c = c.failing_rules.ensures ∙ ap (λ (l : List (ℕ × Bool)). failing_word l)
    (same_tests c.cell_at-c.ensures c.setting_at-s.ensures c.moment_at-w.ensures
    c.args.d)
