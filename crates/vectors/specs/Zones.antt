-- A zone of edition 2 with one interval, by hand. Its six prices begin at bit 40, the price of qru at 82, that of qrd at 89; the minimum of rru at 96, of rrd at 119, of qru at 142, of qrd
-- at 165, and the zone has 188 bits. In edition 1 the minimum of rru begins at bit 82, and the zone has 128 bits. Tabulated facts.
use Rattle.std.specs.Prelude.{Bool, List, [], ◌∷◌, ℕ, T, eqb, get_or, take}
use Rattle.numbers.specs.Base.{every}
use Rattle.layouts.specs.Faults.{number_of, returned_by}
use Rattle.layouts.specs.Layout.{Whole, passes, fails, bytes, read_whole}
use Rattle.model.specs.Case.{ReactiveReserves, Zone, Kinds, no_minima}
use Rattle.model.specs.ByEdition.{zone}
use Rattle.model.specs.Open.{open-rules, open-messages}
use Rattle.model.specs.Shown.{eq_list}

two : (qru qrd : ℕ) → ReactiveReserves
two qru qrd = record { qru = qru; qrd = qrd }

-- a zone of these prices of the reactive reserves and these minima of them
zone_of : (prices minima : ReactiveReserves) → Zone × Kinds
zone_of prices minima = (
  record { shares = record { rgu = 1000; rgd = 1; scr = 0; nsc = 512 }; minima = record { rru = 6400000; rrd = 9; reactive = minima } ∷ [] },
  record { six = record { rgu = 100; rgd = 1; scr = 2; nsc = 3; rru = 4; rrd = 5 }; reactive = prices },
)

-- the last of its six prices, the two reactive ones and its minima where a zone passes reading; else the number of the refusal, and its bit
told : Whole (Zone × Kinds) → List ℕ
told (passes z) =
    let m = get_or z.0.minima 0 no_minima in
    z.1.six.rrd ∷ z.1.reactive.qru ∷ z.1.reactive.qrd ∷ m.rru ∷ m.rrd ∷ m.reactive.qru ∷ m.reactive.qrd ∷ []
told (fails f) = number_of f ∷ returned_by f ∷ []

-- the edition, the zone, how many of its bytes are sent, and what they tell
record Row : Type 0 where
  edition : ℕ
  figures : Zone × Kinds
  sent : ℕ
  tells : List ℕ

agrees : Row → Bool
agrees r = eq_list eqb (told (read_whole (zone r.edition 1) (take r.sent (bytes ((zone r.edition 1).write r.figures))))) r.tells

rows : List Row
rows =
    record { edition = 2; figures = zone_of (two 100 1) (two 6400000 0); sent = 24; tells = 5 ∷ 100 ∷ 1 ∷ 6400000 ∷ 9 ∷ 6400000 ∷ 0 ∷ [] } ∷
    record { edition = 2; figures = zone_of (two 7 8) (two 10 11); sent = 24; tells = 5 ∷ 7 ∷ 8 ∷ 6400000 ∷ 9 ∷ 10 ∷ 11 ∷ [] } ∷
    -- out of range: a price of 0 or 101, a minimum above 6,400,000
    record { edition = 2; figures = zone_of (two 0 1) (two 0 0); sent = 24; tells = 4 ∷ 82 ∷ [] } ∷
    record { edition = 2; figures = zone_of (two 1 0) (two 0 0); sent = 24; tells = 4 ∷ 89 ∷ [] } ∷
    record { edition = 2; figures = zone_of (two 101 1) (two 0 0); sent = 24; tells = 4 ∷ 82 ∷ [] } ∷
    record { edition = 2; figures = zone_of (two 1 101) (two 0 0); sent = 24; tells = 4 ∷ 89 ∷ [] } ∷
    record { edition = 2; figures = zone_of (two 1 1) (two 6400001 0); sent = 24; tells = 4 ∷ 142 ∷ [] } ∷
    record { edition = 2; figures = zone_of (two 1 1) (two 0 6400001); sent = 24; tells = 4 ∷ 165 ∷ [] } ∷
    -- cut
    record { edition = 2; figures = zone_of (two 1 1) (two 0 0); sent = 23; tells = 1 ∷ 165 ∷ [] } ∷
    record { edition = 2; figures = zone_of (two 1 1) (two 0 0); sent = 18; tells = 1 ∷ 142 ∷ [] } ∷
    record { edition = 2; figures = zone_of (two 1 1) (two 0 0); sent = 11; tells = 1 ∷ 82 ∷ [] } ∷
    -- edition 1 takes no bit for them: its prices are 1, its minima 0
    record { edition = 1; figures = zone_of (two 7 8) (two 10 11); sent = 16; tells = 5 ∷ 1 ∷ 1 ∷ 6400000 ∷ 9 ∷ 0 ∷ 0 ∷ [] } ∷ []

rows_agree : T (every agrees rows)
unfolding open-rules open-messages two zone_of told agrees rows
rows_agree = tt
