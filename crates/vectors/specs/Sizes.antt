-- Counts by edition and by reader, on the first bytes of a case: tabulated facts. A count that is taken leads to the field behind the counts, where these bytes end.
use Rattle.std.specs.Prelude.{Bool, false, List, [], ◌∷◌, ℕ, T, eqb, ℤ, pos}
use Rattle.numbers.specs.Base.{every}
use Rattle.layouts.specs.Layout.{Whole, passes, fails}
use Rattle.layouts.specs.Faults.{number_of, returned_by}
use Rattle.model.specs.Editions.{Largest, batch, host}
use Rattle.model.specs.ByEdition.{Stated, stated_in}
use Rattle.model.specs.Open.{open-rules, open-messages}
use Rattle.model.specs.Shown.{eqℤ, eq_list}

-- the number and the place of a refusal
told : Whole Stated → List ℤ
told (passes x) = []
told (fails f) = pos (number_of f) ∷ pos (returned_by f) ∷ []

record Row : Type 0 where
  reader : Largest
  front : List ℕ
  tells : List ℤ

agrees : Row → Bool
agrees r = eq_list eqℤ (told (stated_in r.reader r.front)) r.tells

-- kind 1, the edition, devices, intervals, no zone
rows : List Row
rows =
    -- edition 4: 64 and 96 by the host library; the mismatch price would stand at bit 25
    record { reader = host; front = 20 ∷ 129 ∷ 128 ∷ 0 ∷ []; tells = pos 1 ∷ pos 25 ∷ [] } ∷
    -- 65; 64 and 97
    record { reader = host; front = 20 ∷ 131 ∷ 128 ∷ 0 ∷ []; tells = pos 3 ∷ pos 8 ∷ [] } ∷
    record { reader = host; front = 20 ∷ 129 ∷ 132 ∷ 0 ∷ []; tells = pos 3 ∷ pos 15 ∷ [] } ∷
    -- 16 and 48 by the batch program, 17, 16 and 49
    record { reader = batch; front = 20 ∷ 32 ∷ 192 ∷ 0 ∷ []; tells = pos 1 ∷ pos 25 ∷ [] } ∷
    record { reader = batch; front = 20 ∷ 34 ∷ 192 ∷ 0 ∷ []; tells = pos 3 ∷ pos 8 ∷ [] } ∷
    record { reader = batch; front = 20 ∷ 32 ∷ 196 ∷ 0 ∷ []; tells = pos 3 ∷ pos 15 ∷ [] } ∷
    -- edition 3 by the host library: 16 and 48, with the mismatch price at bit 22; 17; 16 and 49
    record { reader = host; front = 19 ∷ 134 ∷ 0 ∷ []; tells = pos 1 ∷ pos 22 ∷ [] } ∷
    record { reader = host; front = 19 ∷ 142 ∷ 0 ∷ []; tells = pos 3 ∷ pos 8 ∷ [] } ∷
    record { reader = host; front = 19 ∷ 134 ∷ 32 ∷ []; tells = pos 3 ∷ pos 13 ∷ [] } ∷ []

rows_agree : T (every agrees rows)
unfolding open-rules open-messages told agrees rows
rows_agree = tt
