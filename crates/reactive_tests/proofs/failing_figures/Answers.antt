-- The groups' words, added.
use native.Mathlib.Omega.{arith}
use lib.Dec.{eqb}
use Rattle.records.specs.Views.{link_in, reactive_limits_in, reactive_in}
use Rattle.reactive_tests.specs.Tests.{tests-word}
use Rattle.reactive_tests.proofs.failing_figures.Goals as goal

pub returns : goal.returns
returns c = let a : _ = c.args in omega (arith, tests-word (eqb a.side 1) a.n a.power.0 (link_in a.link) (reactive_limits_in a.c) (reactive_in a.x))
