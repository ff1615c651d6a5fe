-- Two's complement goes by the highest bit, which `half` is the weight of; a value read is below `2 * half`.
use native.Mathlib.Omega.{arith}
use Rattle.bits.proofs.Laws.{took}
use Rattle.layouts.specs.Layout as L
use Rattle.fields.proofs.Steps.{raw-on, raw-off, plus-in, plus-out, minus-in, minus-out}
use Rattle.fields.proofs.read_offset.Goals as goal

pub returns-in_default : goal.returns-in_default
unfolding L.int
returns-in_default c = search (raw-on, raw-off)

pub returns-then-most-v : goal.returns-then-most-v
unfolding L.int
returns-then-most-v c = search (raw-on, plus-out)

pub returns-then-v-half : goal.returns-then-v-half
unfolding L.int
returns-then-v-half c = search (raw-on, plus-in)

pub overflow_sub-size : goal.overflow_sub-size
overflow_sub-size c = let h = took _ _ _ c.field.ensures c.in-Value.is in omega arith

pub returns-then-most-size : goal.returns-then-most-size
unfolding L.int
returns-then-most-size c =
    let h = took _ _ _ c.field.ensures c.in-Value.is in
    search (raw-on, minus-out)

pub returns : goal.returns
unfolding L.int
returns c =
    let h = took _ _ _ c.field.ensures c.in-Value.is in
    search (raw-on, minus-in)
