-- The settings, then the flow into the first device's row.
use Rattle.plan_reader.proofs.Turns.{interval-off, flow-off, flow-done}
use borrow.Author.Rules.{rules}
use Rattle.plan_reader.proofs.read_interval.Goals as goal

pub returns-in_err-at_flow : goal.returns-in_err-at_flow
returns-in_err-at_flow c = interval-off _ c.from_residual.ensures c.in_err-at_flow.ensures

pub returns-in_err-flow : goal.returns-in_err-flow
returns-in_err-flow c = flow-off c.in_ok-at_flow.ensures _ c.from_residual-in_err-flow.ensures c.in_err-flow.ensures

pub returns : goal.returns
returns c = flow-done c.in_ok-at_flow.ensures _ c.requires.0 c.requires.1 (search rules) c.in_ok-flow.ensures c.put_flow.ensures
