-- The levels are those of the law.
use native.Mathlib.Omega.{arith}
use Rattle.line_spans.specs.Lines.{below-done}
use Rattle.line_spans.proofs.above_lower.Goals as goal

pub returns : goal.returns
returns c = let a : _ = c.args in below-done a.s a.l a.n a.a.0 a.q.0 a.down.0 (omega arith)
    (omega (arith, c.line_level-line.ensures.0, c.product-reserve.ensures)) c.own_level-own.ensures.0 c.sloped.ensures
