-- The first time over finds a cut and counts; the second fills the table.
use mathlib.Core.Path.{sym, ◌∙◌}
use Rattle.completion_reader.specs.Behind.{behind-cut, behind-fails, behind-passes}
use Rattle.completion_reader.proofs.read_behind.Goals as goal

pub returns-then-cut : goal.returns-then-cut
returns-then-cut c =
    let x = c in
    let a = x.args in
    behind-cut _ a.p.at a.f x.read_body-first.ensures a.p.clash c.if-cut.true

pub finish-requires : goal.finish-requires
finish-requires c = let x = c in x.read_body-first.ensures.inside x.requires.0

pub returns-in-Err : goal.returns-in-Err
returns-in-Err c =
    let e = c in
    let other = e in
    let x = other in
    let a = x.args in
    behind-fails _ a.p.at a.f x.read_body-first.ensures a.p.clash other.if-cut.false (sym e.finish.ensures ∙ c.in-Err.is)

pub returns-in-Ok : goal.returns-in-Ok
returns-in-Ok c =
    let y = c in
    let told = y in
    let e = told in
    let other = e in
    let x = other in
    let a = x.args in
    behind-passes _ a.p.at a.f x.read_body-first.ensures a.p.clash _ other.if-cut.false (sym e.finish.ensures ∙ told.in-Ok.is) y.fill.ensures
