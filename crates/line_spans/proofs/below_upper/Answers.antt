-- The levels are those of the law.
use Rattle.line_spans.specs.Lines.{above-done}
use Rattle.line_spans.proofs.below_upper.Goals as goal

pub returns : goal.returns
returns c =
    let entry : _ = c in
    let a : _ = entry.args in
    above-done a.s a.l a.n a.a.0 a.q.0 a.up.0 c.own_level-own.ensures.0 c.line_level-line.ensures.0 c.sloped.ensures
