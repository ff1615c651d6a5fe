-- Power.
use Rattle.std.specs.Prelude.{ℕ}
use Rattle.kilowatts.specs.declared.Kw.{Kw}

abbrev pub kw : ℕ → Kw
kw x = record { 0 = x }
