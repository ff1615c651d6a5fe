-- What going over the plans leaves from one of them on: so many bytes of the buffer and so many places of the table are done.
use Rattle.std.specs.Prelude.{drop}
use mathlib.Core.List.{List, ◌++◌}
use Prim.Native.Nat.{ℕ, ◌+◌, ◌*◌}
use Rattle.std.proofs.Math.ListN.{length, take}
use Rattle.model.specs.ByEdition.{Stated}
use Rattle.stacks.specs.Stack.{row_numbers, Stack, stacked}

pub record Left : Type 0 where
  pub result : List ℕ
  pub table : List ℕ
  pub bytes : ℕ

abbrev pub left_by : List ℕ → List ℕ → ℕ → ℕ → ℕ → Stack → Left
left_by buffer table bytes place count k = record {
  result = take bytes buffer ++ k.result;
  table = take place table ++ (k.rows ++ drop (row_numbers * count) (drop place table));
  bytes = bytes + k.bytes;
}

unfoldable pub left : Stated → List ℕ → List ℕ → ℕ → ℕ → List (List ℕ) → Left
left y buffer table bytes place plans = left_by buffer table bytes place (length plans) (stacked y (drop bytes buffer) plans)
