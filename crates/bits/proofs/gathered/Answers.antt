use Prim.Native.Nat.{◌+◌, ◌*◌, ◌/◌, ◌%◌}
use mathlib.Core.Path.{◌≡◌, sym}
use native.Mathlib.Omega.{arith}
use Rattle.std.proofs.lemmas.Grind.{common_steps}
use Rattle.bits.proofs.Laws.{field-zero, field-small, byte_more, cut_out}
use Rattle.bits.proofs.gathered.Goals as goal

pub loop-b-init : goal.loop-b-init
loop-b-init c = sym (field-zero _ _)

pub overflow_mul-all : goal.overflow_mul-all
overflow_mul-all c =
    let a = c.args in
    omega (arith, field-small 56 a.s.now (8 * (a.at / 8)) (8 * c.loop-b.b-index) (omega arith))

pub overflow_add-all : goal.overflow_add-all
overflow_add-all c =
    let a = c.args in
    grind (arith, common_steps, field-small 56 a.s.now (8 * (a.at / 8)) (8 * c.loop-b.b-index) (omega arith))

pub loop-b-preserved : goal.loop-b-preserved
loop-b-preserved c =
    let a = c.args in
    let i = c.loop-b.b-index in
    grind (arith, common_steps, byte_more a.s.now (a.at / 8) i (omega (arith, c.type_inv.s (a.at / 8 + i))))

pub returns : goal.returns
returns c =
    let a = c.args in
    let n = (a.at % 8 + a.width + 7) / 8 in
    let e : c.loop-b.b-index ≡ (a.at % 8 + a.width + 7) / 8 = omega arith in
    rw (c.loop-b.invariant, e) (cut_out a.s.now a.at a.width n (omega arith) (omega arith))
