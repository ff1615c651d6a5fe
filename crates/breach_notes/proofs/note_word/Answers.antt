use mathlib.Core.Path.{refl}
use Rattle.breach_notes.specs.Bits.{word-start, word_room, word_next, word-done, cell-bytes}
use Rattle.breach_notes.proofs.note_word.Goals as goal

pub loop-rule-init : goal.loop-rule-init
loop-rule-init c = word-start _ _ _ _ _

pub note_if-n-requires : goal.note_if-n-requires
note_if-n-requires c = let a : _ = c.args in let l : _ = c.loop-rule in let k : _ = c.loop-rule-test.true in (
  cell-bytes c.requires.0 c.requires.1 k c.cell_breach-b.ensures,
  word_room a.t a.i a.word a.k a.list.now l.invariant k refl c.cell_breach-b.ensures c.requires.2,
)

pub loop-rule-preserved : goal.loop-rule-preserved
loop-rule-preserved c = let a : _ = c.args in let l : _ = c.loop-rule in
    word_next a.t a.i a.word a.k a.list.now l.invariant c.loop-rule-test.true refl
    c.cell_breach-b.ensures c.note_if-n.ensures

pub returns : goal.returns
returns c = let a : _ = c.args in word-done a.t a.i a.word a.k a.list.now c.loop-rule.invariant c.loop-rule-test.false
