-- The groups' words, added.
use native.Mathlib.Omega.{arith}
use Rattle.cell_bounds.specs.Tests.{tests-word}
use Rattle.cell_rules.proofs.failing_rules.Goals as goal

pub returns : goal.returns
returns c = let a : _ = c.args in omega (arith, tests-word a.d a.c a.s a.w)
