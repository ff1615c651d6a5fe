-- By what the splitter finds: a message has its turn with the parts of the buffer and the table that are left.
use native.Mathlib.Omega.{arith}
use Prim.Native.Nat.{◌-◌}
use lib.ListN.{length, drop, length-take, length-drop}
use Rattle.layouts.proofs.Frames.{lies}
use Rattle.stacks.proofs.Turns.{taken-fits}
use Rattle.stacks.proofs.Going.{moved-of, moves-end, moves-refused, moves-message}
use Rattle.stack_judgement.proofs.next_turn.Goals as goal

pub slice_bounds-take_turn-count : goal.slice_bounds-take_turn-count
slice_bounds-take_turn-count c = let l = lies _ _ _ c.frame_at.ensures.is c.in-Message.is in omega arith

pub slice_bounds-take_turn-start : goal.slice_bounds-take_turn-start
slice_bounds-take_turn-start c = let l = lies _ _ _ c.frame_at.ensures.is c.in-Message.is in omega arith

pub slice_bounds-take_turn-end : goal.slice_bounds-take_turn-end
slice_bounds-take_turn-end c = let l = lies _ _ _ c.frame_at.ensures.is c.in-Message.is in omega arith

pub offset_bounds-table-place : goal.offset_bounds-table-place
offset_bounds-table-place c = let start : _ = c in omega (arith, start.requires.3, start.well_formed.1.1.1.1.1.1.1.1.1.1.1.0.1)

pub take_turn-written-requires : goal.take_turn-written-requires
take_turn-written-requires c = let start : _ = c in (start.requires.0, start.requires.1, simp (length-take, length-drop) (omega (arith, start.requires.3)))

pub overflow_add-result : goal.overflow_add-result
overflow_add-result c =
    let turn : _ = c in
    let start : _ = turn in
    let bytes : _ = start.args.reached.bytes in
    let buffer : _ = start.args.results.now in
    omega (
      arith,
      taken-fits turn.take_turn-written.ensures,
      length-take (length buffer - bytes) (drop bytes buffer),
      length-drop bytes buffer,
      start.requires.2,
      start.well_formed.1.1.1.1.1.1.1.1.1.1.0.0,
    )

pub returns-in-End : goal.returns-in-End
returns-in-End c = moves-end c.frame_at.ensures.is c.in-End.is

pub returns-in-Refused : goal.returns-in-Refused
returns-in-Refused c = moves-refused c.frame_at.ensures.is c.in-Refused.is

pub returns-in-Message : goal.returns-in-Message
returns-in-Message c =
    let turn : _ = c in
    let found : _ = turn in
    let a : _ = found.args in
    moves-message found.frame_at.ensures.is found.in-Message.is
    (moved-of _ _ a.reached.bytes a.place a.results.now a.table.now turn.take_turn-written.ensures)
