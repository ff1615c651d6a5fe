-- The loop's invariant: k fields are read.
use Prim.Native.Nat.{◌-◌, ◌≤◌}
use mathlib.Core.List.{[], ◌∷◌}
use Rattle.completion_reading.specs.Flat.{times}
use Rattle.figure_reader.specs.Walks.{Runs}
use Rattle.figure_reader.proofs.read_fields.Given as goal

abbrev pub invariant-loop-k : goal.invariant-loop-k
invariant-loop-k l = Runs l.s l.initial.t l.initial.table (times l._k (l.width ∷ [])) l.t l.table
