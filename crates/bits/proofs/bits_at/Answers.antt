-- The word's bits ahead of the field and behind it are shifted out.
use Rattle.bits.proofs.Laws.{shifted}
use Rattle.bits.proofs.bits_at.Goals as goal

pub returns-then-first-s : goal.returns-then-first-s
returns-then-first-s c =
    let a = c.args in
    rw c.word_at.ensures (shifted a.s.now a.at a.width c.requires.0)
