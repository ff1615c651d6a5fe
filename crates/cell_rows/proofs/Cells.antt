-- A row's cell, by the prices of the eight that were taken from it.
use mathlib.Core.Path.{◌≡◌, ap}
use mathlib.Core.List.{List}
use Prim.Native.Nat.{ℕ}
use Rattle.row_places.specs.declared.Cell.{Cell}
use Rattle.row_places.specs.declared.ReservePrices.{ReservePrices}
use Rattle.row_places.specs.Figures.{cell_of}

-- the row's cell with these prices
abbrev with_prices : List ℕ → ReservePrices → Cell
with_prices r x = let c = cell_of r in record {
  status = c.status;
  pmin = c.pmin;
  pmax = c.pmax;
  blocks = c.blocks;
  caps = c.caps;
  floors = c.floors;
  prices = c.prices;
  reserves = x;
  reactive = c.reactive;
}

pub cell-made : (r : List ℕ) {x : ReservePrices} → x ≡ (cell_of r).reserves → with_prices r x ≡ cell_of r
cell-made r e = ap (with_prices r) e
