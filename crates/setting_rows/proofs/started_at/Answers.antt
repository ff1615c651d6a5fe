-- The commitments on both sides are those of the rows.
use Prim.Native.Nat.{ℕ}
use mathlib.Core.Path.{ap₂, ◌∙◌}
use lib.Dec.{ltb}
use Rattle.numbers.specs.Base.{bit}
use Rattle.setting_rows.proofs.started_at.Goals as goal

pub returns : goal.returns
returns c = c.rises.ensures ∙ ap₂ (λ (x y : ℕ). bit (ltb x y)) c.on_before-before.ensures c.on_at-on.ensures
