-- The loop's invariant: the breaches of the bits that are left are still to be noted.
use Rattle.breach_notes.specs.Bits.{WordLeft}
use Rattle.breach_notes.proofs.note_word.Given as goal

abbrev pub invariant-loop-rule : goal.invariant-loop-rule
invariant-loop-rule l = WordLeft l.t l.i l.word l.k l.initial.list l.rule l.rest l.n l.list
