use mathlib.Core.Path.{sym}
use Rattle.cell_bounds.specs.Word.{word_none}
use Rattle.reactive_rules.specs.Rules.{idle-here, reactive-next}
use Rattle.reactive_rules.proofs.idle_front.Goals as goal

pub loop-t-preserved : goal.loop-t-preserved
loop-t-preserved c = let a : _ = c.args in let h : _ = c.loop-t in
    reactive-next a.d a.cells.now a.settings.now a.starts.now a.powers.now h.invariant
    (word_none _ (sym (idle-here a.d a.cells.now a.settings.now a.starts.now a.powers.now h.t (c.idle_at.ensures c.if-not-idle_at.false))))
