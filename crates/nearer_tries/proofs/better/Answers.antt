-- The smaller change, the earlier interval among equals.
use Prim.Native.Nat.{◌+◌, ◌-◌}
use native.Mathlib.Omega.{arith}
use Rattle.bits.specs.Pick.{at_most, not-at-most}
use Rattle.nearer_tries.proofs.better.Goals as goal

pub returns-then-a-b : goal.returns-then-a-b
returns-then-a-b c =
    let a : _ = c.args in
    at_most _ _ ((a.before.0 - a.v) + (a.v - a.before.0)) ((a.now.0 - a.w) + (a.w - a.now.0)) (omega (arith, c.apart-a.ensures, c.apart-b.ensures))
    c.answer.ensures

pub returns-else-a-b : goal.returns-else-a-b
returns-else-a-b c =
    let a : _ = c.args in
    not-at-most _ _ ((a.before.0 - a.v) + (a.v - a.before.0)) ((a.now.0 - a.w) + (a.w - a.now.0)) (omega (arith, c.apart-a.ensures, c.apart-b.ensures))
    c.answer-else-a-b.ensures
