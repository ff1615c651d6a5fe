use mathlib.Core.Path.{refl}
use Rattle.pen.specs.Pens.{pushes-then}
use Rattle.pen.specs.Runs.{pushes-as}
use Rattle.completion_writer.proofs.Parts.{six-is}
use Rattle.completion_writer.proofs.put_shortfalls.Goals as goal

pub returns : goal.returns
returns c =
    let second = c in
    let first = second in
    let a = first.args in
    pushes-as (six-is a.shortfalls) refl (pushes-then first.put_three-p.ensures second.put_three.ensures)
