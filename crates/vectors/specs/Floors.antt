-- A block of edition 3, by hand: its cap has 17 bits, its floor 17, its price 15. So a block's floor begins at bit 17 and its price at 34, and it has 49 bits; of editions 1 and 2 it has 32.
-- A cell's first block begins at bit 39: its floor at 56, its price at 73; a second block begins at 88, its floor at 105, and such a cell of edition 3 has 313 bits. Tabulated facts.
use Rattle.std.specs.Prelude.{Bool, List, [], ◌∷◌, ℕ, T, eqb, ℤ, pos, negsuc, take}
use Rattle.numbers.specs.Base.{every}
use Rattle.layouts.specs.Faults.{number_of, returned_by}
use Rattle.layouts.specs.Layout.{Layout, Whole, passes, fails, int, ◌▸◌, bytes, read_whole}
use Rattle.model.specs.Case.{Block, Cell, CellPrices, no_reserves}
use Rattle.model.specs.ByEdition.{block, cell}
use Rattle.model.specs.Open.{open-rules, open-messages}
use Rattle.model.specs.Shown.{eqℤ, eq_list}

-- a block with its price
abbrev priced : ℕ → Layout (Block × ℤ)
priced e = block e ▸ int 15 10000

-- ---- reading a block

-- the figures of a block that passes reading; else the number of the refusal, and its bit
told : Whole (Block × ℤ) → List ℤ
told (passes b) = pos b.0.cap ∷ pos b.0.floor ∷ b.1 ∷ []
told (fails f) = pos (number_of f) ∷ pos (returned_by f) ∷ []

-- the edition, the bytes, and what they tell
record Row : Type 0 where
  edition : ℕ
  sent : List ℕ
  tells : List ℤ

agrees : Row → Bool
agrees r = eq_list eqℤ (told (read_whole (priced r.edition) r.sent)) r.tells

rows : List Row
rows =
    -- 11000011010100000 00000000000000001 111111111111111
    record { edition = 3; sent = 195 ∷ 80 ∷ 0 ∷ 0 ∷ 127 ∷ 255 ∷ 128 ∷ []; tells = pos 100000 ∷ pos 1 ∷ negsuc 0 ∷ [] } ∷
    -- floor = cap
    record { edition = 3; sent = 195 ∷ 80 ∷ 97 ∷ 168 ∷ 19 ∷ 136 ∷ 0 ∷ []; tells = pos 100000 ∷ pos 100000 ∷ pos 10000 ∷ [] } ∷
    record { edition = 3; sent = 0 ∷ 2 ∷ 128 ∷ 1 ∷ 64 ∷ 0 ∷ 0 ∷ []; tells = pos 5 ∷ pos 5 ∷ pos 0 ∷ [] } ∷
    record { edition = 3; sent = 0 ∷ 0 ∷ 0 ∷ 0 ∷ 0 ∷ 0 ∷ 0 ∷ []; tells = pos 0 ∷ pos 0 ∷ pos 0 ∷ [] } ∷
    -- "A floor above its cap is a contradiction at the floor": cap 5, floor 6
    record { edition = 3; sent = 0 ∷ 2 ∷ 128 ∷ 1 ∷ 128 ∷ 0 ∷ 0 ∷ []; tells = pos 5 ∷ pos 17 ∷ [] } ∷
    -- floors 100001 and 131071 are out of range; so is, ahead of the contradiction, a price of 10001
    record { edition = 3; sent = 195 ∷ 80 ∷ 97 ∷ 168 ∷ 64 ∷ 0 ∷ 0 ∷ []; tells = pos 4 ∷ pos 17 ∷ [] } ∷
    record { edition = 3; sent = 0 ∷ 2 ∷ 255 ∷ 255 ∷ 192 ∷ 0 ∷ 0 ∷ []; tells = pos 4 ∷ pos 17 ∷ [] } ∷
    record { edition = 3; sent = 0 ∷ 2 ∷ 128 ∷ 1 ∷ 147 ∷ 136 ∷ 128 ∷ []; tells = pos 4 ∷ pos 34 ∷ [] } ∷
    -- cut
    record { edition = 3; sent = 195 ∷ 80 ∷ []; tells = pos 1 ∷ pos 0 ∷ [] } ∷
    record { edition = 3; sent = 195 ∷ 80 ∷ 127 ∷ 255 ∷ []; tells = pos 1 ∷ pos 17 ∷ [] } ∷
    record { edition = 3; sent = 195 ∷ 80 ∷ 0 ∷ 0 ∷ 127 ∷ 255 ∷ []; tells = pos 1 ∷ pos 34 ∷ [] } ∷
    -- editions 1 and 2 take no bit for it: the price stands behind the cap
    record { edition = 2; sent = 195 ∷ 80 ∷ 127 ∷ 255 ∷ []; tells = pos 100000 ∷ pos 0 ∷ negsuc 0 ∷ [] } ∷
    record { edition = 1; sent = 195 ∷ 80 ∷ 127 ∷ 255 ∷ []; tells = pos 100000 ∷ pos 0 ∷ negsuc 0 ∷ [] } ∷
    record { edition = 2; sent = 195 ∷ 80 ∷ 0 ∷ 0 ∷ 127 ∷ 255 ∷ 128 ∷ []; tells = pos 6 ∷ pos 32 ∷ [] } ∷ []

rows_agree : T (every agrees rows)
unfolding open-rules open-messages told agrees rows
rows_agree = tt

-- ---- writing a block

record Wrote : Type 0 where
  edition : ℕ
  cap : ℕ
  floor : ℕ
  price : ℤ
  gives : List ℕ

writes : Wrote → Bool
writes r = eq_list eqb (bytes ((priced r.edition).write (record { cap = r.cap; floor = r.floor }, r.price))) r.gives

written : List Wrote
written =
    record { edition = 3; cap = 100000; floor = 1; price = negsuc 0; gives = 195 ∷ 80 ∷ 0 ∷ 0 ∷ 127 ∷ 255 ∷ 128 ∷ [] } ∷
    record { edition = 3; cap = 100000; floor = 100000; price = pos 10000; gives = 195 ∷ 80 ∷ 97 ∷ 168 ∷ 19 ∷ 136 ∷ 0 ∷ [] } ∷
    record { edition = 2; cap = 100000; floor = 0; price = negsuc 0; gives = 195 ∷ 80 ∷ 127 ∷ 255 ∷ [] } ∷ []

written-agree : T (every writes written)
unfolding open-rules open-messages writes written
written-agree = tt

-- ---- in a cell

-- pmin, pmax, two blocks by their caps and floors, qmin, qmax
record Figures : Type 0 where
  pmin : ℕ
  pmax : ℕ
  first : ℕ × ℕ
  second : ℕ × ℕ
  qmin : ℤ
  qmax : ℤ

cell_of : Figures → Cell × CellPrices
cell_of f = (
  record {
    status = 0;
    pmin = f.pmin;
    pmax = f.pmax;
    blocks = record { cap = f.first.0; floor = f.first.1 } ∷ record { cap = f.second.0; floor = f.second.1 } ∷ [];
    reactive = record { qmin = f.qmin; qmax = f.qmax };
  },
  record { blocks = pos 0 ∷ pos 0 ∷ []; reserves = no_reserves; reactive = record { qru = 0; qrd = 0 } },
)

figures_of : List Block → List ℤ
figures_of [] = []
figures_of (b ∷ bs) = pos b.cap ∷ pos b.floor ∷ figures_of bs

cell_told : Whole (Cell × CellPrices) → List ℤ
cell_told (passes c) = figures_of c.0.blocks
cell_told (fails f) = pos (number_of f) ∷ pos (returned_by f) ∷ []

-- the edition, the cell, how many of its bytes are sent, and what they tell
record CellRow : Type 0 where
  edition : ℕ
  figures : Figures
  sent : ℕ
  tells : List ℤ

cell_agrees : CellRow → Bool
cell_agrees r = eq_list eqℤ (cell_told (read_whole (cell r.edition) (take r.sent (bytes ((cell r.edition).write (cell_of r.figures)))))) r.tells

-- nothing but these blocks
blocks_only : ℕ × ℕ → ℕ × ℕ → Figures
blocks_only a b = record { pmin = 0; pmax = 0; first = a; second = b; qmin = pos 0; qmax = pos 0 }

cell_rows : List CellRow
cell_rows =
    record { edition = 3; figures = blocks_only (100000, 7) (9, 9); sent = 40; tells = pos 100000 ∷ pos 7 ∷ pos 9 ∷ pos 9 ∷ [] } ∷
    -- each floor is compared with its own block's cap
    record { edition = 3; figures = blocks_only (7, 6) (5, 6); sent = 40; tells = pos 5 ∷ pos 105 ∷ [] } ∷
    record { edition = 3; figures = blocks_only (5, 6) (5, 6); sent = 40; tells = pos 5 ∷ pos 56 ∷ [] } ∷
    -- pmax, floor, qmax: "in field order"
    record { edition = 3; figures = record { pmin = 1; pmax = 0; first = (0, 1); second = (0, 0); qmin = pos 1; qmax = pos 0 }; sent = 40; tells = pos 5 ∷ pos 19 ∷ [] } ∷
    record { edition = 3; figures = record { pmin = 0; pmax = 0; first = (0, 0); second = (0, 1); qmin = pos 1; qmax = pos 0 }; sent = 40; tells = pos 5 ∷ pos 105 ∷ [] } ∷
    record { edition = 3; figures = record { pmin = 0; pmax = 0; first = (0, 0); second = (0, 0); qmin = pos 1; qmax = pos 0 }; sent = 40; tells = pos 5 ∷ pos 267 ∷ [] } ∷
    -- out of range, and cut
    record { edition = 3; figures = blocks_only (0, 0) (100000, 100001); sent = 40; tells = pos 4 ∷ pos 105 ∷ [] } ∷
    record { edition = 3; figures = blocks_only (0, 0) (0, 0); sent = 39; tells = pos 1 ∷ pos 299 ∷ [] } ∷
    record { edition = 3; figures = blocks_only (0, 0) (0, 0); sent = 10; tells = pos 1 ∷ pos 73 ∷ [] } ∷
    record { edition = 3; figures = blocks_only (0, 0) (0, 0); sent = 9; tells = pos 1 ∷ pos 56 ∷ [] } ∷
    -- editions 2 and 1 have 279 and 215 bits, and no floors
    record { edition = 2; figures = blocks_only (5, 6) (9, 9); sent = 35; tells = pos 5 ∷ pos 0 ∷ pos 9 ∷ pos 0 ∷ [] } ∷
    record { edition = 1; figures = blocks_only (5, 6) (9, 9); sent = 27; tells = pos 5 ∷ pos 0 ∷ pos 9 ∷ pos 0 ∷ [] } ∷ []

cell-rows-agree : T (every cell_agrees cell_rows)
unfolding open-rules open-messages cell_of figures_of cell_told cell_agrees blocks_only cell_rows
cell-rows-agree = tt
