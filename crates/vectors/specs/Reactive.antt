-- A cell of edition 2, by hand. With no block qmin begins at bit 151, qmax at 169, the price of qru at 187, that of qrd at 201, and the cell has 215 bits. Tabulated facts.
use Rattle.std.specs.Prelude.{Bool, List, [], ◌∷◌, ℕ, T, ℤ, pos, negsuc, take}
use Rattle.numbers.specs.Base.{every}
use Rattle.layouts.specs.Faults.{number_of, returned_by}
use Rattle.layouts.specs.Layout.{Whole, passes, fails, bytes, read_whole}
use Rattle.model.specs.Case.{Cell, CellPrices, no_reserves}
use Rattle.model.specs.ByEdition.{cell}
use Rattle.model.specs.Open.{open-rules, open-messages}
use Rattle.model.specs.Shown.{eqℤ, eq_list}

-- a cell's figures, in the message's order
cell_of : (pmin pmax : ℕ) (qmin qmax : ℤ) (qru qrd : ℕ) → Cell × CellPrices
cell_of pmin pmax qmin qmax qru qrd = (
  record { status = 0; pmin = pmin; pmax = pmax; blocks = []; reactive = record { qmin = qmin; qmax = qmax } },
  record { blocks = []; reserves = no_reserves; reactive = record { qru = qru; qrd = qrd } },
)

-- the reactive figures of a cell that passes reading; else the number of the refusal, and its bit
told : Whole (Cell × CellPrices) → List ℤ
told (passes c) = c.0.reactive.qmin ∷ c.0.reactive.qmax ∷ pos c.1.reactive.qru ∷ pos c.1.reactive.qrd ∷ []
told (fails f) = pos (number_of f) ∷ pos (returned_by f) ∷ []

-- the edition, the cell, how many of its bytes are sent, and what they tell
record Row : Type 0 where
  edition : ℕ
  figures : Cell × CellPrices
  sent : ℕ
  tells : List ℤ

agrees : Row → Bool
agrees r = eq_list eqℤ (told (read_whole (cell r.edition) (take r.sent (bytes ((cell r.edition).write r.figures))))) r.tells

rows : List Row
rows =
    record { edition = 2; figures = cell_of 0 0 (negsuc 99999) (pos 100000) 10000 1; sent = 27; tells = negsuc 99999 ∷ pos 100000 ∷ pos 10000 ∷ pos 1 ∷ [] } ∷
    record { edition = 2; figures = cell_of 0 0 (negsuc 6) (negsuc 6) 0 0; sent = 27; tells = negsuc 6 ∷ negsuc 6 ∷ pos 0 ∷ pos 0 ∷ [] } ∷
    -- "A qmin above qmax is a contradiction at qmax"; that of pmax comes before it
    record { edition = 2; figures = cell_of 0 0 (pos 0) (negsuc 0) 0 0; sent = 27; tells = pos 5 ∷ pos 169 ∷ [] } ∷
    record { edition = 2; figures = cell_of 1 0 (pos 1) (pos 0) 0 0; sent = 27; tells = pos 5 ∷ pos 19 ∷ [] } ∷
    -- out of range
    record { edition = 2; figures = cell_of 0 0 (pos 100001) (pos 0) 0 0; sent = 27; tells = pos 4 ∷ pos 151 ∷ [] } ∷
    record { edition = 2; figures = cell_of 0 0 (pos 0) (negsuc 100000) 0 0; sent = 27; tells = pos 4 ∷ pos 169 ∷ [] } ∷
    record { edition = 2; figures = cell_of 0 0 (pos 0) (pos 0) 10001 0; sent = 27; tells = pos 4 ∷ pos 187 ∷ [] } ∷
    record { edition = 2; figures = cell_of 0 0 (pos 0) (pos 0) 0 10001; sent = 27; tells = pos 4 ∷ pos 201 ∷ [] } ∷
    -- cut
    record { edition = 2; figures = cell_of 0 0 (pos 0) (pos 0) 0 0; sent = 26; tells = pos 1 ∷ pos 201 ∷ [] } ∷
    record { edition = 2; figures = cell_of 0 0 (pos 0) (pos 0) 0 0; sent = 21; tells = pos 1 ∷ pos 151 ∷ [] } ∷
    -- edition 1 takes no bit for them
    record { edition = 1; figures = cell_of 0 0 (pos 5) (pos 4) 3 2; sent = 19; tells = pos 0 ∷ pos 0 ∷ pos 0 ∷ pos 0 ∷ [] } ∷ []

rows_agree : T (every agrees rows)
unfolding open-rules open-messages cell_of told agrees rows
rows_agree = tt
