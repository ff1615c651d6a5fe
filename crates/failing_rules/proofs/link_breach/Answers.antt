-- The places count from 1.
use native.Mathlib.Numerals.{add-one}
use Rattle.failing_rules.proofs.link_breach.Goals as goal

pub returns : goal.returns
returns c = simp add-one
