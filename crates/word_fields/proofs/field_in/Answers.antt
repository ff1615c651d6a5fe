use Rattle.word_fields.proofs.Words.{last_some, last-is, last-lt}
use Rattle.word_fields.proofs.field_in.Goals as goal

pub nonzero_rem-result : goal.nonzero_rem-result
nonzero_rem-result c = last_some 0 _ c.requires.1

pub overflow_cast-result : goal.overflow_cast-result
overflow_cast-result c = record { fits = last-lt _ _ c.requires.1 }

pub returns : goal.returns
returns c = last-is _ _ c.requires.1
