-- The parts are those of device i, and the words of both kinds of rules have bits of their own.
use native.Mathlib.Omega.{arith}
use Rattle.failing_rules.specs.Parts.{place, fits_cut, reactive-fits-cut, words_small, word-numbers}
use Rattle.failing_rules.proofs.failing_in.Goals as goal

pub overflow_add-e : goal.overflow_add-e
overflow_add-e c = let s : _ = c in omega (arith, place s.requires.0 s.args.i s.args.a s.requires.1 s.requires.2)

pub offset_bounds-cells-a : goal.offset_bounds-cells-a
offset_bounds-cells-a c = let s : _ = c in omega (arith, place s.requires.0 s.args.i s.args.a s.requires.1 s.requires.2)

pub slice_bounds-own_cells-end : goal.slice_bounds-own_cells-end
slice_bounds-own_cells-end c = let s : _ = c in omega (arith, place s.requires.0 s.args.i s.args.a s.requires.1 s.requires.2)

pub offset_bounds-settings-a : goal.offset_bounds-settings-a
offset_bounds-settings-a c = let s : _ = c in omega (arith, place s.requires.0 s.args.i s.args.a s.requires.1 s.requires.2)

pub slice_bounds-own-end : goal.slice_bounds-own-end
slice_bounds-own-end c = let s : _ = c in omega (arith, place s.requires.0 s.args.i s.args.a s.requires.1 s.requires.2)

pub offset_bounds-powers-a : goal.offset_bounds-powers-a
offset_bounds-powers-a c = let s : _ = c in omega (arith, place s.requires.0 s.args.i s.args.a s.requires.1 s.requires.2)

pub slice_bounds-own_powers-end : goal.slice_bounds-own_powers-end
slice_bounds-own_powers-end c = let s : _ = c in omega (arith, place s.requires.0 s.args.i s.args.a s.requires.1 s.requires.2)

pub failing_at-real-requires : goal.failing_at-real-requires
failing_at-real-requires c = let s : _ = c in
    fits_cut s.requires.0 s.args.i s.args.a s.requires.1 s.requires.2 c.device_at-d.ensures
    c.bounds_of-b.ensures s.args.t s.requires.3

pub failing_reactive-reactive-requires : goal.failing_reactive-reactive-requires
failing_reactive-reactive-requires c = let s : _ = c in
    reactive-fits-cut s.requires.0 s.args.i s.args.a s.requires.1 s.requires.2 c.device_at-d.ensures
    c.bounds_of-b.ensures
    c.reactive_bounds_of-r.ensures s.args.t s.requires.3

pub overflow_add-result : goal.overflow_add-result
overflow_add-result c = let s : _ = c in omega (
  arith,
  words_small s.requires.0 s.args.i s.args.a s.requires.1 s.requires.2 c.device_at-d.ensures
      c.bounds_of-b.ensures
      c.reactive_bounds_of-r.ensures s.args.t s.requires.3 c.failing_at-real.ensures c.failing_reactive-reactive.ensures,
)

pub returns : goal.returns
returns c = let s : _ = c in
    word-numbers s.requires.0 s.args.i s.args.a s.requires.1 s.requires.2 c.device_at-d.ensures
    c.bounds_of-b.ensures
    c.reactive_bounds_of-r.ensures s.args.t s.requires.3 c.failing_at-real.ensures c.failing_reactive-reactive.ensures
