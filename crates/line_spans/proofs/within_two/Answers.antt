-- The two bounds, one after the other.
use native.Mathlib.Omega.{arith}
use lib.Dec.{eqb}
use Rattle.line_spans.specs.Lines.{two-lines-done}
use Rattle.line_spans.proofs.within_two.Goals as goal

pub returns : goal.returns
returns c = let a : _ = c.args in two-lines-done a.s (eqb a.side 1) a.n a.a.0 a.link a.x (omega arith)
    c.by_side-up.ensures.0 c.by_side-down.ensures.0 c.below_upper-first.ensures c.above_lower.ensures
