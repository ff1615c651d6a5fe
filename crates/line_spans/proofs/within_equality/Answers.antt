-- The two bounds, one after the other.
use native.Mathlib.Omega.{arith}
use lib.Dec.{eqb}
use Rattle.line_spans.specs.Lines.{equality-done}
use Rattle.line_spans.proofs.within_equality.Goals as goal

pub returns : goal.returns
returns c = let a : _ = c.args in equality-done a.s (eqb a.side 1) a.n a.a.0 a.link a.x (omega arith) c.below_upper-first.ensures c.above_lower.ensures
