-- The intervals, the overruns and, for the desk, the surplus.
use Rattle.figure_reader.specs.Walks.{runs_then}
use Rattle.completion_body.specs.Forms.{market-body, desk-body}
use Rattle.completion_body.proofs.read_body.Goals as goal

pub returns-then-not-desk : goal.returns-then-not-desk
returns-then-not-desk c =
    let x2 = c in
    let x1 = x2 in
    let f = x1.args.f in
    market-body f c.if-not-desk.true (runs_then x1.read_intervals-t.ensures x2.read_fields-over.ensures)

pub returns : goal.returns
returns c =
    let x3 = c in
    let other = x3 in
    let x2 = other in
    let x1 = x2 in
    let f = x1.args.f in
    desk-body f other.if-not-desk.false (runs_then x1.read_intervals-t.ensures (runs_then x2.read_fields-over.ensures x3.read_field.ensures))
