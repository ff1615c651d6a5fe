-- The products are small.
use native.Mathlib.Omega.{arith}
use native.Mathlib.Nat.{mul-le-mul}
use Rattle.line_spans.proofs.line_level.Goals as goal

pub overflow_mul-l : goal.overflow_mul-l
overflow_mul-l c = omega (arith, mul-le-mul c.requires.0.offset c.requires.1)

pub overflow_add-result : goal.overflow_add-result
overflow_add-result c = let h : _ = c.requires in omega (arith, mul-le-mul h.0.offset h.1, mul-le-mul h.0.slope h.2)

pub overflow_add-result-2 : goal.overflow_add-result-2
overflow_add-result-2 c = let h : _ = c.requires in omega (arith, mul-le-mul h.0.offset h.1, mul-le-mul h.0.slope h.2)

pub returns : goal.returns
returns c = let h : _ = c.requires in (omega arith, omega (arith, mul-le-mul h.0.offset h.1, mul-le-mul h.0.slope h.2))
