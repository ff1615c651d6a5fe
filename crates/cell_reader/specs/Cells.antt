-- A cell, and a device's cells in its part of the rows: what reading them leaves.
use Rattle.std.specs.Prelude.{◌≡◌, Result, Ok, List, [], map, ℕ, ◌<◌, length, get_or}
use Rattle.layouts.specs.declared.Fault.{Fault}
use Rattle.layouts.specs.declared.Place.{Place}
use Rattle.layouts.specs.Layout.{list}
use Rattle.model.specs.Case as M
use Rattle.model.specs.ByEdition.{cell}
use Rattle.row_places.specs.declared.Cell.{Cell as CellRecord}
use Rattle.row_places.specs.Figures.{cell_row}
use Rattle.records.specs.Views.{Padded, cell_pair}
use Rattle.fields.specs.Got.{Got, got, seen, told}

abbrev pub cell_in : CellRecord → M.Cell × M.CellPrices
cell_in c = cell_pair (cell_row c)

pub record CellDone (e : ℕ) (s : List ℕ) (p : Place) (r : Got CellRecord) : Type 0 where
  pub is : seen cell_in r ≡ got (cell e) s p
  pub padded : (c : CellRecord) (q : Place) → r ≡ Ok (c, q) → Padded (cell_row c)

pub record CellsDone (e : ℕ) (s : List ℕ) (p : Place) (r : Result Place Fault) (cells : List (List ℕ)) : Type 0 where
  pub is : told r (map cell_pair cells) ≡ got (list (length cells) (cell e)) s p
  pub padded : (q : Place) → r ≡ Ok q → (k : ℕ) → k < length cells → Padded (get_or cells k [])
