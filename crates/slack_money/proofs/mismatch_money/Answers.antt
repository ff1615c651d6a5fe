-- Below 2^44 kW·min at a price below 2^20.
use mathlib.Core.Path.{refl, ap, ◌∙◌}
use Prim.Native.Nat.{ℕ, ◌+◌, ◌*◌}
use native.Mathlib.Omega.{arith}
use Rattle.slack_money.specs.Charges.{interval-minutes, mismatch-price, mismatch-power, energy-cost, mismatch-entered}
use Rattle.slack_money.proofs.mismatch_money.Goals as goal

pub plus-requires : goal.plus-requires
plus-requires c = omega (arith, mismatch-power c.requires.1)

pub priced-requires : goal.priced-requires
priced-requires c =
    let a : _ = c.args in
    let w : _ = c.requires.1 in
    let e : _ = c.over.ensures ∙ ap (λ (k : ℕ). k * a.minutes) c.plus.ensures in
    omega (arith, mismatch-price w, (energy-cost (a.first.0 + a.second.0) a.minutes a.price (mismatch-power w) (interval-minutes w) (mismatch-price w) e refl).0)

pub spend-requires : goal.spend-requires
spend-requires c =
    let a : _ = c.args in
    let w : _ = c.requires.1 in
    let e : _ = c.over.ensures ∙ ap (λ (k : ℕ). k * a.minutes) c.plus.ensures in
    omega (
      arith,
      c.requires.0.debit,
      (energy-cost (a.first.0 + a.second.0) a.minutes a.price (mismatch-power w) (interval-minutes w) (mismatch-price w) e c.priced.ensures).1,
    )

pub returns : goal.returns
returns c =
    let a : _ = c.args in
    let w : _ = c.requires.1 in
    let e : _ = c.over.ensures ∙ ap (λ (k : ℕ). k * a.minutes) c.plus.ensures in
    mismatch-entered a.price a.minutes (a.first.0 + a.second.0) c.spend.ensures e c.priced.ensures
    (energy-cost (a.first.0 + a.second.0) a.minutes a.price (mismatch-power w) (interval-minutes w) (mismatch-price w) e c.priced.ensures).1
