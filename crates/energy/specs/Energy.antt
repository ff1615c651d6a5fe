-- Energy, and power in thousandths of a kW.
use Rattle.std.specs.Prelude.{ℕ}
use Rattle.energy.specs.declared.KwMin.{KwMin}
use Rattle.energy.specs.declared.Watts.{Watts}

abbrev pub kw_min : ℕ → KwMin
kw_min x = record { 0 = x }

abbrev pub watts : ℕ → Watts
watts x = record { 0 = x }
