-- The offset earned and the kept cost spent.
use mathlib.Core.Path.{ap, ◌∙◌}
use native.Mathlib.Omega.{arith}
use Rattle.row_places.specs.declared.State.{State}
use Rattle.row_places.specs.Figures.{device_at}
use Rattle.money.specs.Costs.{cost-known, no-state, state-cost}
use Rattle.money.proofs.state_money.Goals as goal

pub returns-then-state-eq0 : goal.returns-then-state-eq0
returns-then-state-eq0 c = let a : _ = c.args in no-state a.l (device_at a.devices.now a.i) a.state c.if-state-eq0.true

pub spend-requires : goal.spend-requires
spend-requires c =
    let a : _ = c.args in let k : _ = cost-known (device_at a.devices.now a.i) a.state c.requires.3 c.if-state-eq0.false in
    omega (arith, c.requires.1.debit, c.earn.ensures.debits, c.from.ensures, ap (λ (s : State). s.cost) c.state_at-s.ensures, k)

pub returns : goal.returns
returns c =
    let a : _ = c.args in let d : _ = device_at a.devices.now a.i in let k : _ = cost-known d a.state c.requires.3 c.if-state-eq0.false in
    let e : _ = c.from.ensures ∙ ap (λ (s : State). s.cost) c.state_at-s.ensures in
    state-cost d a.state c.if-state-eq0.false e (omega (arith, e, k)) c.earn.ensures c.spend.ensures
