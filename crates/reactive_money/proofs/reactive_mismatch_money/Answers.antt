-- A rate below 2^44 over fewer than 2^20 minutes, spent at once.
use native.Mathlib.Omega.{arith}
use Prim.Native.Nat.{ℕ, ◌+◌, ◌*◌}
use mathlib.Core.Path.{ap, ◌∙◌}
use Rattle.reactive_money.specs.Charges.{interval-minutes, mismatch-power, rate-small, cost-small, mismatch-entered}
use Rattle.reactive_money.proofs.reactive_mismatch_money.Goals as goal

pub plus-requires : goal.plus-requires
plus-requires c = omega (arith, mismatch-power c.requires.1)

pub over-requires : goal.over-requires
over-requires c =
    let w : _ = c.requires.1 in
    omega (arith, c.at.ensures ∙ ap (λ (k : ℕ). c.args.price * k) c.plus.ensures, rate-small w, interval-minutes w)

pub spend-requires : goal.spend-requires
spend-requires c =
    let a : _ = c.args in
    let e : _ = c.at.ensures ∙ ap (λ (k : ℕ). a.price * k) c.plus.ensures in
    omega (arith, c.requires.0.debit, cost-small c.requires.1, c.over.ensures ∙ ap (λ (k : ℕ). a.minutes * k) e)

pub returns : goal.returns
returns c =
    let a : _ = c.args in
    let e : _ = c.at.ensures ∙ ap (λ (k : ℕ). a.price * k) c.plus.ensures in
    mismatch-entered a.price a.minutes (a.first.0 + a.second.0) c.spend.ensures e c.over.ensures
