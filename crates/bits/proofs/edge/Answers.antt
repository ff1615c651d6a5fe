-- The test holds exactly where the field ends past the reach.
use Prim.Native.Nat.{◌+◌, ◌-◌}
use mathlib.Core.Path.{◌≡◌, ap, sym}
use native.Mathlib.Omega.{arith}
use Rattle.bits.specs.Bits.{field_at}
use Rattle.bits.proofs.Laws.{field-small, split, read_as, read-cut, reaches}
use Rattle.bits.proofs.edge.Goals as goal

pub returns-then-len-at : goal.returns-then-len-at
returns-then-len-at c = sym (read-cut _ _ _ (omega arith))

pub overflow_add-next : goal.overflow_add-next
overflow_add-next c = let R = reaches c.args.s.now in omega arith

pub gathered-requires : goal.gathered-requires
gathered-requires c = let R = reaches c.args.s.now in omega arith

pub returns-then-width-le56 : goal.returns-then-width-le56
returns-then-width-le56 c = read_as _ _ _ c.gathered.ensures (omega arith)

pub gathered-high-requires : goal.gathered-high-requires
gathered-high-requires c = let R = reaches c.args.s.now in omega arith

pub overflow_add-at-4 : goal.overflow_add-at-4
overflow_add-at-4 c = let R = reaches c.args.s.now in omega arith

pub gathered-low-requires : goal.gathered-low-requires
gathered-low-requires c = let R = reaches c.args.s.now in omega arith

pub overflow_mul-result : goal.overflow_mul-result
overflow_mul-result c =
    let a = c.args in
    omega (arith, field-small 32 a.s.now a.at (a.width - 32) (omega arith))

pub overflow_add-result : goal.overflow_add-result
overflow_add-result c =
    let a = c.args in
    omega (
      arith,
      field-small 32 a.s.now a.at (a.width - 32) (omega arith),
      field-small 32 a.s.now (a.at + (a.width - 32)) 32 (omega arith),
    )

pub returns : goal.returns
returns c =
    let a = c.args in
    let e : a.width - 32 + 32 ≡ a.width = omega arith in
    read_as _ _ _ (omega (arith, split a.s.now a.at (a.width - 32) 32, ap (field_at a.s.now a.at) e)) (omega arith)
