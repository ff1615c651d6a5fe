use Prim.Native.Nat.{ℕ, ◌-◌, ◌*◌}
use mathlib.Core.Path.{◌≡◌, refl, ap}
use native.Mathlib.Omega.{arith}
use Rattle.front_reader.proofs.FrontSteps.{sum-next}
use borrow.Author.Rules.{rules}
use Rattle.front_reader.proofs.last_end.Goals as goal

pub loop-i-init : goal.loop-i-init
loop-i-init c = (refl, search rules)

pub bounds-halves-i : goal.bounds-halves-i
bounds-halves-i c = omega (arith, c.requires.room)

pub overflow_add-sum : goal.overflow_add-sum
overflow_add-sum c =
    let loop : _ = c.loop-i in
    let start : _ = c in
    omega (arith, start.requires.few, start.requires.half loop.i (omega arith))

pub loop-i-preserved : goal.loop-i-preserved
loop-i-preserved c =
    let loop : _ = c.loop-i in
    let start : _ = c in (
      sum-next start.args.halves.now loop.i loop.sum (omega (arith, start.requires.room)) loop.invariant.0,
      omega (arith, start.requires.half loop.i (omega arith)),
    )

pub overflow_mul-result : goal.overflow_mul-result
overflow_mul-result c = omega (arith, c.requires.few)

pub returns : goal.returns
returns c =
    let loop : _ = c.loop-i in
    let start : _ = c in
    let e : loop.i ≡ start.args.m = omega arith in
    rw e at (ap (λ (x : ℕ). 2 * x) loop.invariant.0)
