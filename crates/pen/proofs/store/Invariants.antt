-- The loop's invariant: what is left to store gives the whole.
use Prim.Native.Nat.{◌-◌}
use mathlib.Core.Path.{◌≡◌}
use Rattle.pen.specs.Stored.{stored}
use Rattle.pen.proofs.store.Given as goal

abbrev pub invariant-loop-j : goal.invariant-loop-j
invariant-loop-j l = stored l.buf l.first (l.j - l.first) l.rest ≡ stored l.initial.buf l.first (l.end - l.first) l.all
