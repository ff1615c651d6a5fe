-- Six costs of a shortfall, added.
use native.Mathlib.Omega.{arith}
use lib.ListN.{get_or}
use Prim.Native.Nat.{ℕ, ◌*◌}
use Rattle.money.specs.Bounds.{short_most}
use Rattle.slack_money.specs.Charges.{watts_at, six-added}
use Rattle.slack_money.proofs.six_cost.Goals as goal

pub short_cost-a-requires : goal.short_cost-a-requires
short_cost-a-requires c = (c.requires.0.amount 0 (omega arith), c.requires.0.price 0 (omega arith), c.requires.1)

pub short_cost-b-requires : goal.short_cost-b-requires
short_cost-b-requires c = (c.requires.0.amount 1 (omega arith), c.requires.0.price 1 (omega arith), c.requires.1)

pub short_cost-c-requires : goal.short_cost-c-requires
short_cost-c-requires c = (
  c.requires.0.amount 2 (omega arith),
  c.requires.0.price 2 (omega arith),
  c.requires.1,
)

pub short_cost-d-requires : goal.short_cost-d-requires
short_cost-d-requires c = (
  c.requires.0.amount 3 (omega arith),
  c.requires.0.price 3 (omega arith),
  c.requires.1,
)

pub short_cost-e-requires : goal.short_cost-e-requires
short_cost-e-requires c = (
  c.requires.0.amount 4 (omega arith),
  c.requires.0.price 4 (omega arith),
  c.requires.1,
)

pub short_cost-f-requires : goal.short_cost-f-requires
short_cost-f-requires c = (
  c.requires.0.amount 5 (omega arith),
  c.requires.0.price 5 (omega arith),
  c.requires.1,
)

pub returns : goal.returns
returns c = let a : _ = c.args in
    let at : ℕ → ℕ = λ k. get_or a.prices k 0 * watts_at a.x k in
    six-added a.minutes short_most (at 0) (at 1) (at 2) (at 3) (at 4) (at 5)
    c.short_cost-a.ensures c.short_cost-b.ensures
    c.short_cost-c.ensures
    c.short_cost-d.ensures
    c.short_cost-e.ensures c.short_cost-f.ensures
    c.plus.ensures c.plus-2.ensures c.plus-3.ensures c.plus-4.ensures c.plus-5.ensures
