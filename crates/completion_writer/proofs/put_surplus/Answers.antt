use mathlib.Core.Path.{refl, ◌∙◌, ap}
use mir.Syntax.{w64}
use mir.ValLaws.{to_z-of_z}
use Rattle.bits.specs.Twos.{to_twos}
use Rattle.pen.specs.Runs.{pushes-as}
use Rattle.field_groups.specs.Groups.{both-pushed}
use Rattle.completion_writer.proofs.Parts.{surplus-is}
use Rattle.completion_writer.proofs.put_surplus.Goals as goal

pub returns : goal.returns
returns c =
    let put = c in
    let low = put in
    let high = low in
    let t = high.twos-v in
    let s = high in
    let e = t.ensures ∙ ap (to_twos 64) (to_z-of_z w64 s.args.z s.ranges.z) in
    pushes-as (surplus-is t.result s.args.z e) refl (both-pushed high.field-high.ensures low.field-low.ensures put.put_both.ensures)
