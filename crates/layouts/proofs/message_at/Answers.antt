-- A framed message lies in the slice, so its part can be taken.
use borrow.Enum.Refused.{opened}
use native.Mathlib.Omega.{arith}
use Rattle.layouts.proofs.Frames.{lies, some, none}
use Rattle.layouts.proofs.message_at.Goals as goal

pub returns-in_default : goal.returns-in_default
returns-in_default c = none _ _ _ c.frame_at.ensures.is (opened c.in_default.in_default-own.keys2)

pub slice_bounds-result-count-2 : goal.slice_bounds-result-count-2
slice_bounds-result-count-2 c = let L = lies _ _ _ c.frame_at.ensures.is c.in-Message.is in omega arith

pub slice_bounds-result-start-2 : goal.slice_bounds-result-start-2
slice_bounds-result-start-2 c = let L = lies _ _ _ c.frame_at.ensures.is c.in-Message.is in omega arith

pub slice_bounds-result-end-2 : goal.slice_bounds-result-end-2
slice_bounds-result-end-2 c = let L = lies _ _ _ c.frame_at.ensures.is c.in-Message.is in omega arith

pub returns : goal.returns
returns c = some _ _ _ c.frame_at.ensures.is c.in-Message.is
