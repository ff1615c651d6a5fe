-- By the sign of the slope.
use native.Mathlib.Omega.{arith}
use Rattle.line_spans.specs.Lines.{rising-line, falling-line}
use Rattle.line_spans.proofs.sloped.Goals as goal

pub returns-then-slope-ge-SLOPE_OFFSET : goal.returns-then-slope-ge-SLOPE_OFFSET
returns-then-slope-ge-SLOPE_OFFSET c = let a : _ = c.args in rising-line a.s a.slope a.x a.y (rw c.from.ensures at c.at_least.ensures) (omega arith)

pub returns-else-slope-ge-SLOPE_OFFSET : goal.returns-else-slope-ge-SLOPE_OFFSET
returns-else-slope-ge-SLOPE_OFFSET c = let a : _ = c.args in falling-line a.s a.slope a.x a.y (rw c.from-else-slope-ge-SLOPE_OFFSET.ensures at c.at_most.ensures) (omega arith)
