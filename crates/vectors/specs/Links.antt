-- A device's link, by hand: its kind has 2 bits, an offset 18, a slope 15. So the upper line's offset begins at bit 2 and its slope at 20, the lower line's at 35 and 53;
-- without lines a link has 2 bits, with the equality 35, with two lines 68. Tabulated facts.
use Rattle.std.specs.Prelude.{Bool, List, [], ◌∷◌, ℕ, T, eqb, ℤ, pos, negsuc}
use Rattle.numbers.specs.Base.{every}
use Rattle.layouts.specs.Faults.{number_of, returned_by}
use Rattle.layouts.specs.Layout.{Whole, passes, fails, bytes, read_whole}
use Rattle.layouts.specs.Since.{since}
use Rattle.model.specs.Case.{Link, no_link}
use Rattle.model.specs.ByEdition.{link}
use Rattle.model.specs.Open.{open-rules, open-messages}
use Rattle.model.specs.Shown.{eqℤ, eq_list}

-- the figures of a link that passes reading; else the number of the refusal, and its bit
told : Whole Link → List ℤ
told (passes l) = pos l.kind ∷ l.upper.offset ∷ l.upper.slope ∷ l.lower.offset ∷ l.lower.slope ∷ []
told (fails f) = pos (number_of f) ∷ pos (returned_by f) ∷ []

-- ---- reading

-- the edition, the bytes, and what they tell
record Row : Type 0 where
  edition : ℕ
  sent : List ℕ
  tells : List ℤ

agrees : Row → Bool
agrees r = eq_list eqℤ (told (read_whole (since r.edition 2 no_link link) r.sent)) r.tells

rows : List Row
rows =
    -- 00: none
    record { edition = 2; sent = 0 ∷ []; tells = pos 0 ∷ pos 0 ∷ pos 0 ∷ pos 0 ∷ pos 0 ∷ [] } ∷
    -- 01, 100000, 10000, −100000, −10000: two lines, upper before lower
    record { edition = 2; sent = 88 ∷ 106 ∷ 4 ∷ 226 ∷ 19 ∷ 203 ∷ 5 ∷ 143 ∷ 0 ∷ []; tells = pos 1 ∷ pos 100000 ∷ pos 10000 ∷ negsuc 99999 ∷ negsuc 9999 ∷ [] } ∷
    -- 10, 1000, −1500: "the equality once"
    record { edition = 2; sent = 128 ∷ 62 ∷ 143 ∷ 68 ∷ 128 ∷ []; tells = pos 2 ∷ pos 1000 ∷ negsuc 1499 ∷ pos 0 ∷ pos 0 ∷ [] } ∷
    -- 11: a kind of 3 is out of range
    record { edition = 2; sent = 192 ∷ []; tells = pos 4 ∷ pos 0 ∷ [] } ∷
    -- the equality's offset 100001 and −100001, its slope 10001 and −10001
    record { edition = 2; sent = 152 ∷ 106 ∷ 16 ∷ 0 ∷ 0 ∷ []; tells = pos 4 ∷ pos 2 ∷ [] } ∷
    record { edition = 2; sent = 167 ∷ 149 ∷ 240 ∷ 0 ∷ 0 ∷ []; tells = pos 4 ∷ pos 2 ∷ [] } ∷
    record { edition = 2; sent = 128 ∷ 0 ∷ 4 ∷ 226 ∷ 32 ∷ []; tells = pos 4 ∷ pos 20 ∷ [] } ∷
    record { edition = 2; sent = 128 ∷ 0 ∷ 11 ∷ 29 ∷ 224 ∷ []; tells = pos 4 ∷ pos 20 ∷ [] } ∷
    -- the lower line's offset 100001, its slope 10001
    record { edition = 2; sent = 64 ∷ 0 ∷ 0 ∷ 0 ∷ 12 ∷ 53 ∷ 8 ∷ 0 ∷ 0 ∷ []; tells = pos 4 ∷ pos 35 ∷ [] } ∷
    record { edition = 2; sent = 64 ∷ 0 ∷ 0 ∷ 0 ∷ 0 ∷ 0 ∷ 2 ∷ 113 ∷ 16 ∷ []; tells = pos 4 ∷ pos 53 ∷ [] } ∷
    -- cut
    record { edition = 2; sent = []; tells = pos 1 ∷ pos 0 ∷ [] } ∷
    record { edition = 2; sent = 128 ∷ 62 ∷ []; tells = pos 1 ∷ pos 2 ∷ [] } ∷
    record { edition = 2; sent = 128 ∷ 62 ∷ 143 ∷ 68 ∷ []; tells = pos 1 ∷ pos 20 ∷ [] } ∷
    record { edition = 2; sent = 64 ∷ 0 ∷ 0 ∷ 0 ∷ 0 ∷ []; tells = pos 1 ∷ pos 35 ∷ [] } ∷
    record { edition = 2; sent = 88 ∷ 106 ∷ 4 ∷ 226 ∷ 19 ∷ 203 ∷ 5 ∷ 143 ∷ []; tells = pos 1 ∷ pos 53 ∷ [] } ∷
    -- the fill behind none is zeros; behind the equality no second line stands
    record { edition = 2; sent = 32 ∷ []; tells = pos 6 ∷ pos 2 ∷ [] } ∷
    record { edition = 2; sent = 128 ∷ 62 ∷ 143 ∷ 68 ∷ 128 ∷ 0 ∷ 0 ∷ 0 ∷ 0 ∷ []; tells = pos 6 ∷ pos 40 ∷ [] } ∷
    -- edition 1 takes no bit for it
    record { edition = 1; sent = []; tells = pos 0 ∷ pos 0 ∷ pos 0 ∷ pos 0 ∷ pos 0 ∷ [] } ∷
    record { edition = 1; sent = 128 ∷ 62 ∷ 143 ∷ 68 ∷ 128 ∷ []; tells = pos 6 ∷ pos 0 ∷ [] } ∷ []

rows_agree : T (every agrees rows)
unfolding open-rules open-messages told agrees rows
rows_agree = tt

-- ---- writing

-- a link and its bytes
record Written : Type 0 where
  figures : Link
  gives : List ℕ

writes : Written → Bool
writes r = eq_list eqb (bytes (link.write r.figures)) r.gives

written : List Written
written =
    record { figures = no_link; gives = 0 ∷ [] } ∷
    record {
      figures = record { kind = 1; upper = record { offset = pos 100000; slope = pos 10000 }; lower = record { offset = negsuc 99999; slope = negsuc 9999 } };
      gives = 88 ∷ 106 ∷ 4 ∷ 226 ∷ 19 ∷ 203 ∷ 5 ∷ 143 ∷ 0 ∷ [];
    } ∷
    record {
      figures = record { kind = 2; upper = record { offset = pos 1000; slope = negsuc 1499 }; lower = record { offset = pos 7; slope = pos 7 } };
      gives = 128 ∷ 62 ∷ 143 ∷ 68 ∷ 128 ∷ [];
    } ∷ []

written-agree : T (every writes written)
unfolding open-rules open-messages writes written
written-agree = tt
