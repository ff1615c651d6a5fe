-- The groups of a cell's fields: limits, blocks, the prices of the eight; and the cell that they make.
use Rattle.std.specs.Prelude.{◌≡◌, Ok, List, [], ◌∷◌, map, ℕ, ◌+◌, ◌*◌, ◌≤◌, ◌<◌, leb, ℤ, length, get_or, take}
use Rattle.layouts.specs.declared.Place.{Place}
use Rattle.layouts.specs.Layout.{Layout, int, ◌then◌, ◌▸◌, such, counted, figure, count_of}
use Rattle.model.specs.Case as M
use Rattle.model.specs.Messages.{kw_field, eight}
use Rattle.model.specs.ByEdition as B
use Rattle.kilowatts.specs.Power.{kw}
use Rattle.row_places.specs.declared.Cell.{Cell}
use Rattle.row_places.specs.declared.ReservePrices.{ReservePrices}
use Rattle.row_places.specs.declared.ReactiveCell.{ReactiveCell}
use Rattle.row_places.specs.Figures.{eight_prices}
use Rattle.records.specs.Views.{less, price_offset}
use Rattle.fields.specs.Got.{Got, got, seen}
use Rattle.cell_groups.specs.declared.Limits.{Limits}
use Rattle.cell_groups.specs.declared.Block.{Block}
use Rattle.cell_groups.specs.declared.Blocks.{Blocks}

-- ---- the layouts, by edition

-- "status 2 (0 free, 1 on, 2 off); pmin, pmax 17 each"; "pmin above pmax"
abbrev pub limits : Layout (ℕ × (ℕ × ℕ))
limits = figure 2 0 2 ▸ (kw_field then (λ low. such (λ high. leb low high) kw_field))

abbrev pub limits_bits : ℕ
limits_bits = 2 + 2 * 17

-- each is in its range, and pmin is not above pmax
pub record LimitsFit (status pmin pmax : ℕ) : Type 0 where
  pub status-fits : status ≤ 2
  pub pmin-fits : pmin ≤ pmax
  pub pmax-fits : pmax ≤ 100000

-- "each cap 17 and price 15 (±10,000)"; the floor stands between them
abbrev pub block : ℕ → Layout (M.Block × ℤ)
block e = B.block e ▸ int 15 10000

-- "blocks 3 (0..4)"
abbrev pub blocks : ℕ → Layout (List (M.Block × ℤ))
blocks e = counted (count_of 3 0 4) (block e)

-- "eight reserve prices 14 each (0..10,000)"
abbrev pub reserve_prices : Layout M.Reserves
reserve_prices = eight (figure 14 0 10000)

-- ---- what the code's records hold of them

abbrev pub limits_in : Limits → ℕ × (ℕ × ℕ)
limits_in r = (r.status, (r.pmin.0, r.pmax.0))

abbrev pub block_in : Block → M.Block × ℤ
block_in b = (record { cap = b.cap.0; floor = b.floor.0 }, less price_offset b.price)

abbrev pub no_block : Block
no_block = record { cap = kw 0; floor = kw 0; price = 0 }

abbrev pub Empty : Block → Type 0
Empty b = (b.cap.0 ≡ 0) × (b.floor.0 ≡ 0)

-- at most four blocks, and from block n on cap 0 and floor 0
pub record Absent (bs : List Block) (n : ℕ) : Type 0 where
  pub few : n ≤ 4
  pub rest : (k : ℕ) → n ≤ k → k < 4 → Empty (get_or bs k no_block)

abbrev pub blocks_in : Blocks → List (M.Block × ℤ)
blocks_in r = map block_in (take r.count r.blocks)

pub record BlocksDone (e : ℕ) (s : List ℕ) (p : Place) (r : Got Blocks) : Type 0 where
  pub is : seen blocks_in r ≡ got (blocks e) s p
  pub long : (x : Blocks) (q : Place) → r ≡ Ok (x, q) → length x.blocks ≡ 4
  pub absent : (x : Blocks) (q : Place) → r ≡ Ok (x, q) → Absent x.blocks x.count

abbrev pub prices_of : List ℕ → ReservePrices
prices_of v = eight_prices v 0

-- the cell of its groups
abbrev pub cell_with : Limits → Blocks → ReservePrices → ReactiveCell → Cell
cell_with l b reserves reactive = let bs = b.blocks in record {
  status = l.status;
  pmin = l.pmin;
  pmax = l.pmax;
  blocks = b.count;
  caps = (get_or bs 0 no_block).cap ∷ (get_or bs 1 no_block).cap ∷ (get_or bs 2 no_block).cap ∷ (get_or bs 3 no_block).cap ∷ [];
  floors = (get_or bs 0 no_block).floor ∷ (get_or bs 1 no_block).floor ∷ (get_or bs 2 no_block).floor ∷ (get_or bs 3 no_block).floor ∷ [];
  prices = (get_or bs 0 no_block).price ∷ (get_or bs 1 no_block).price ∷ (get_or bs 2 no_block).price ∷ (get_or bs 3 no_block).price ∷ [];
  reserves = reserves;
  reactive = reactive;
}
