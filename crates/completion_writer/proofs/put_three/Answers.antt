use Rattle.pen.specs.Pens.{pushes-then}
use Rattle.completion_writer.proofs.put_three.Goals as goal

pub returns : goal.returns
returns c =
    let third = c in
    let second = third in
    let first = second in
    pushes-then first.push-p.ensures (pushes-then second.push-p-2.ensures third.push.ensures)
