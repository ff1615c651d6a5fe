-- What is written, from the code's arguments.
use Rattle.std.specs.Prelude.{List, map, ℕ, get_or}
use Rattle.kilowatts.specs.declared.Kw.{Kw}
use Rattle.energy.specs.declared.Watts.{Watts}
use Rattle.model.specs.Case.{Six}
use Rattle.model.specs.Messages.{Counts, DeviceChoice}

abbrev pub counts_in : ℕ → ℕ → ℕ → Counts
counts_in devices intervals zones = record { devices = devices; intervals = intervals; zones = zones }

abbrev pub choice_in : ℕ → ℕ → ℕ → List Kw → DeviceChoice
choice_in started stopped state blocks = record { started = started; stopped = stopped; state = state; blocks = map (λ b. b.0) blocks }

-- power k of blocks, shortfall k of six
abbrev pub block_at : List Kw → ℕ → ℕ
block_at l k = (get_or l k (record { 0 = 0 })).0

abbrev pub shortfall_at : List Watts → ℕ → ℕ
shortfall_at l k = (get_or l k (record { 0 = 0 })).0

abbrev pub six_of : List Watts → Six
six_of l = record { rgu = shortfall_at l 0; rgd = shortfall_at l 1; scr = shortfall_at l 2; nsc = shortfall_at l 3; rru = shortfall_at l 4; rrd = shortfall_at l 5 }
