-- What going over the plans leaves from one of them on: so many bytes of the buffer and so many places of the table are done.
use Rattle.std.specs.Prelude.{◌≡◌, refl, drop}
use Rattle.std.proofs.Math.Path.{sym}
use Rattle.std.proofs.Common.{ap, ◌∙◌, take-append-drop, drop-drop}
use mathlib.Core.List.{List, [], ◌∷◌, ◌++◌, append_assoc}
use Prim.Native.Nat.{ℕ, suc, ◌+◌, ◌*◌, ◌≤◌}
use native.Mathlib.Omega.{arith}
use Rattle.std.proofs.Math.ListN.{length, take}
use Rattle.std.proofs.Math.Seq.{take-append-add, drop-append-add, length-take-le}
use Rattle.model.specs.ByEdition.{Stated}
use Rattle.stacks.specs.Stack.{row_numbers, row_of, turn, turn_bytes, turn_left, stacked}
use Rattle.stacks.specs.Left.{Left, left}

same_left : {a b c d : List ℕ} {n m : ℕ} → a ≡ b → c ≡ d → n ≡ m → ◌≡◌ {A = Left} (record { result = a; table = c; bytes = n }) (record { result = b; table = d; bytes = m })
same_left e f g = rw (e, f, g) refl

-- a seam at k
module _ (k : ℕ) (a b : List ℕ) (e : length a ≡ k) where
  take_behind : (n : ℕ) → take (k + n) (a ++ b) ≡ a ++ take n b
  take_behind n = rw (sym e) (take-append-add a b n)

  drop-behind : (n : ℕ) → drop (k + n) (a ++ b) ≡ drop n b
  drop-behind n = rw (sym e) (drop-append-add a b n)

-- one plan more
module _ (y : Stated) (buffer table : List ℕ) (bytes place : ℕ) (h : bytes ≤ length buffer) (g : place ≤ length table) (ps : List ℕ) (more : List (List ℕ)) where
  abbrev rest : List ℕ
  rest = drop bytes buffer

  abbrev n : ℕ
  n = turn_bytes y rest ps

  abbrev row : List ℕ
  row = row_of (turn y rest ps).verdict n

  abbrev behind : List ℕ
  behind = drop row_numbers (drop place table)

  abbrev buffer' : List ℕ
  buffer' = take bytes buffer ++ (turn y rest ps).result

  abbrev table' : List ℕ
  table' = take place table ++ (row ++ behind)

  pub left-next : left y buffer table bytes place (ps ∷ more) ≡ left y buffer' table' (bytes + n) (place + row_numbers) more
  unfolding left stacked
  left-next =
      let k = length-take-le bytes buffer h in
      let l = length-take-le place table g in
      let count : row_numbers * suc (length more) ≡ row_numbers + row_numbers * length more = omega arith in
      let dropped = drop-behind bytes (take bytes buffer) (turn y rest ps).result k n in
      let taken = take_behind bytes (take bytes buffer) (turn y rest ps).result k n in
      let rows = take_behind place (take place table) (row ++ behind) l row_numbers in
      let last = drop-behind place (take place table) (row ++ behind) l row_numbers in
      same_left
      (rw (dropped, taken) (sym (append_assoc (take bytes buffer) (take n (turn y rest ps).result) _)))
      (rw (dropped, rows, last, count, sym (drop-drop (row_numbers * length more) row_numbers (drop place table)))
      (ap (λ (x : List ℕ). take place table ++ x) (append_assoc row (stacked y (turn_left y rest ps) more).rows _) ∙ sym (append_assoc (take place table) row _)))
      (rw dropped (omega arith))

-- none left
pub left-done : (y : Stated) (buffer table : List ℕ) (bytes place : ℕ) → left y buffer table bytes place [] ≡ record { result = buffer; table = table; bytes = bytes }
unfolding left stacked
left-done y buffer table bytes place = same_left (take-append-drop bytes buffer) (take-append-drop place table) (omega arith)

-- none done
pub left-all : (y : Stated) (buffer table : List ℕ) (plans : List (List ℕ)) → left y buffer table 0 0 plans ≡ record {
  result = (stacked y buffer plans).result;
  table = (stacked y buffer plans).rows ++ drop (row_numbers * length plans) table;
  bytes = (stacked y buffer plans).bytes;
}
unfolding left
left-all y buffer table plans = same_left refl refl (omega arith)
