-- The parts are those of device i.
use native.Mathlib.Omega.{arith}
use Rattle.failing_rules.specs.Parts.{place}
use Rattle.cell_spans.specs.Tie.{fits_cut, span-cut}
use Rattle.cell_spans.proofs.span_at.Goals as goal

pub overflow_add-e : goal.overflow_add-e
overflow_add-e c = let s : _ = c in omega (arith, place s.requires.0 s.args.i s.args.a s.requires.1 s.requires.2)

pub offset_bounds-cells-a : goal.offset_bounds-cells-a
offset_bounds-cells-a c = let s : _ = c in omega (arith, place s.requires.0 s.args.i s.args.a s.requires.1 s.requires.2)

pub slice_bounds-own_cells-end : goal.slice_bounds-own_cells-end
slice_bounds-own_cells-end c = let s : _ = c in omega (arith, place s.requires.0 s.args.i s.args.a s.requires.1 s.requires.2)

pub offset_bounds-settings-a : goal.offset_bounds-settings-a
offset_bounds-settings-a c = let s : _ = c in omega (arith, place s.requires.0 s.args.i s.args.a s.requires.1 s.requires.2)

pub slice_bounds-own-end : goal.slice_bounds-own-end
slice_bounds-own-end c = let s : _ = c in omega (arith, place s.requires.0 s.args.i s.args.a s.requires.1 s.requires.2)

pub offset_bounds-powers-a : goal.offset_bounds-powers-a
offset_bounds-powers-a c = let s : _ = c in omega (arith, place s.requires.0 s.args.i s.args.a s.requires.1 s.requires.2)

pub slice_bounds-own_powers-end : goal.slice_bounds-own_powers-end
slice_bounds-own_powers-end c = let s : _ = c in omega (arith, place s.requires.0 s.args.i s.args.a s.requires.1 s.requires.2)

pub parts_span-requires : goal.parts_span-requires
parts_span-requires c =
    let at-bounds-of : _ = c in
    let at-device-at : _ = at-bounds-of in
    let s : _ = at-device-at in
    fits_cut s.requires.0 s.args.i s.args.a s.requires.1 s.requires.2 at-device-at.device_at-d.ensures at-bounds-of.bounds_of-b.ensures
    c.reactive_bounds_of-r.ensures s.args.t s.requires.3

pub returns : goal.returns
returns c =
    let at-reactive-bounds-of : _ = c in
    let at-bounds-of : _ = at-reactive-bounds-of in
    let at-device-at : _ = at-bounds-of in
    let s : _ = at-device-at in
    span-cut s.requires.0 s.args.i s.args.a s.requires.1 s.requires.2 at-device-at.device_at-d.ensures at-bounds-of.bounds_of-b.ensures
    at-reactive-bounds-of.reactive_bounds_of-r.ensures s.args.t s.requires.3 c.parts_span.ensures
