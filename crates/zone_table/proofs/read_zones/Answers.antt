use native.Mathlib.Omega.{arith}
use lib.ListN.{length-take, length-drop}
use Rattle.row_places.specs.Figures.{zone_row}
use Rattle.fields.proofs.Steps.{told-exits}
use Rattle.zone_reader.proofs.ZoneSteps.{zone-natural}
use Rattle.zone_table.proofs.PartSteps.{parting-none, inside, inside-heads, parting-more, parting-off, parting-done}
use Rattle.zone_table.proofs.read_zones.Goals as goal

pub loop-i-init : goal.loop-i-init
loop-i-init c = parting-none _ _

pub overflow_add-e : goal.overflow_add-e
overflow_add-e c = omega (arith, inside c.loop-i.invariant c.requires c.loop-i-test.true)

pub offset_bounds-minima-a : goal.offset_bounds-minima-a
offset_bounds-minima-a c = omega (arith, inside c.loop-i.invariant c.requires c.loop-i-test.true)

pub slice_bounds-read_zone-end : goal.slice_bounds-read_zone-end
slice_bounds-read_zone-end c = omega (arith, inside c.loop-i.invariant c.requires c.loop-i-test.true)

pub read_zone-requires : goal.read_zone-requires
read_zone-requires c = simp (length-take, length-drop) (omega (arith, c.requires.few))

pub returns-in_err-zone : goal.returns-in_err-zone
returns-in_err-zone c =
    let natural = zone-natural c.args.edition c.args.m in
    told-exits _ _ c.from_residual.ensures (parting-off c.loop-i.invariant c.requires c.loop-i-test.true natural c.read_zone.new.minima c.read_zone.auto.minima c.in_err-zone.ensures.is)

pub put_zone-requires : goal.put_zone-requires
put_zone-requires c = inside-heads c.loop-i.invariant c.requires c.loop-i-test.true

pub loop-i-preserved : goal.loop-i-preserved
loop-i-preserved c =
    let natural = zone-natural c.args.edition c.args.m in
    parting-more c.loop-i.invariant c.requires c.loop-i-test.true natural (zone_row c.in_ok-zone.zone) c.read_zone.new.minima c.read_zone.auto.minima c.in_ok-zone.ensures.is c.put_zone.ensures

pub returns : goal.returns
returns c = parting-done c.loop-i.invariant (omega arith)
