-- Two fields for the market; behind them, for the desk, the state and the block powers.
use Rattle.figure_reader.specs.Walks.{runs_then}
use Rattle.completion_body.specs.Forms.{market-device, desk-device}
use Rattle.completion_body.proofs.read_device.Goals as goal

pub shape_of-table-then-not-desk : goal.shape_of-table-then-not-desk
shape_of-table-then-not-desk c = c.read_fields-changes.ensures.long

pub returns-then-not-desk : goal.returns-then-not-desk
returns-then-not-desk c =
    let x1 = c in
    market-device c.if-not-desk.true x1.read_fields-changes.ensures

pub returns : goal.returns
returns c =
    let x3 = c in
    let x2 = x3 in
    let other = x2 in
    let x1 = other in
    desk-device other.if-not-desk.false (runs_then x1.read_fields-changes.ensures (runs_then x2.read_field-state.ensures x3.read_fields.ensures))
