-- The case's own offers of the named sets: what they have together, that they are told apart, and that a list has one order of merit with them exactly where it is
-- a rearrangement of them.
use Rattle.std.specs.Prelude.{length}
use mathlib.Core.List.Permᴰ
use Prim.Native.Nat.{ℕ}
use Rattle.model.specs.Case.{System, Case}
use Rattle.model.specs.Forced.{cell}
use Rattle.model.specs.Rules.{blocks}

module _ (c : Case) (t : ℕ) where
  abbrev pub q : System
  q = c.system

  -- how many blocks device i has
  abbrev pub count : ℕ → ℕ
  count i = length (cell q t i).blocks
