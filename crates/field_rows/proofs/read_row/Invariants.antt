-- The loop's invariant: i of the fields stand at the front of `out`.
use Prim.Native.Nat.{◌-◌}
use mathlib.Core.Path.{◌≡◌}
use lib.ListN.{length}
use Rattle.field_rows.specs.Each.{field_of}
use Rattle.field_rows.specs.Going.{Listing}
use Rattle.field_rows.proofs.read_row.Given as goal

abbrev pub invariant-loop-i : goal.invariant-loop-i
invariant-loop-i l = (length l.out ≡ length l.initial.out) × Listing (field_of l.fields) l.s l.n l.initial.q l.i l.out l.q
