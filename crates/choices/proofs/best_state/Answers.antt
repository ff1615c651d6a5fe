use Prim.Native.Nat.{◌+◌}
use mathlib.Core.Path.{ap, ◌∙◌}
use native.Mathlib.Omega.{arith}
use Rattle.row_places.specs.declared.State.{State}
use Rattle.row_places.specs.Figures.{device_at}
use Rattle.choices.specs.States.{chosen, best-start, best-next, best-end}
use Rattle.choices.proofs.best_state.Goals as goal

pub loop-k-init : goal.loop-k-init
loop-k-init c = best-start (device_at c.args.devices.now c.args.i) c.args.downtime

pub loop-k-preserved : goal.loop-k-preserved
loop-k-preserved c = let a : _ = c.args in let l : _ = c.loop-k in
    best-next (device_at a.devices.now a.i) a.downtime l.k l.b c.with_state-b.result
    (omega (arith, c.states_at-k-end.ensures, c.loop-k-test.true)) l.invariant
    (c.with_state-b.ensures ∙ ap (λ (s : State). chosen l.b s (l.k + 1) a.downtime) c.state_at-s.ensures)

pub returns : goal.returns
returns c = let a : _ = c.args in let l : _ = c.loop-k in
    best-end (device_at a.devices.now a.i) a.downtime l.k l.b (omega (arith, c.states_at-k-end.ensures, c.loop-k-test.false)) l.invariant
