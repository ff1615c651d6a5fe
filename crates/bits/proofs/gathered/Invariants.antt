-- The loop's invariant: `all` is the number of the bytes taken, from the field's first byte.
use Prim.Native.Nat.{◌*◌, ◌/◌}
use mathlib.Core.Path.{◌≡◌}
use Rattle.bits.specs.Bits.{field_at}
use Rattle.bits.proofs.gathered.Given as goal

abbrev pub invariant-loop-b : goal.invariant-loop-b
invariant-loop-b l = l.all ≡ field_at l.s (8 * (l.at / 8)) (8 * l.b-index)
