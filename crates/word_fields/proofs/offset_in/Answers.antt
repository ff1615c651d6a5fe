use mathlib.Core.Path.{ap, ◌∙◌}
use Prim.Native.Nat.{ℕ, ◌+◌, ◌%◌, ◌^◌}
use Rattle.word_fields.proofs.Words.{last_some, last-is, last-lt}
use Rattle.word_fields.proofs.offset_in.Goals as goal

pub nonzero_rem-result : goal.nonzero_rem-result
nonzero_rem-result c = last_some 0 _ c.requires.1

pub overflow_cast-result-2 : goal.overflow_cast-result-2
overflow_cast-result-2 c = record { fits = last-lt _ _ c.requires.1 }

pub returns : goal.returns
returns c =
    let a = c.args in
    last-is _ _ c.requires.1 ∙ ap (λ (n : ℕ). (n + a.most) % 2 ^ a.width) c.field_in.ensures
