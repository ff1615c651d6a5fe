-- Reactive power as the code keeps it.
use Rattle.std.specs.Prelude.{ℕ}
use Rattle.kilovars.specs.declared.Kvar.{Kvar}
use Rattle.kilovars.specs.declared.SignedKvar.{SignedKvar}
use Rattle.kilovars.specs.declared.Var.{Var}
use Rattle.kilovars.specs.declared.KvarPrice.{KvarPrice}
use Rattle.kilovars.specs.declared.VarPrice.{VarPrice}

-- what a signed figure is kept from
abbrev pub kvar_offset : ℕ
kvar_offset = 100000

abbrev pub kvar : ℕ → Kvar
kvar n = record { 0 = n }

abbrev pub signed_kvar : ℕ → SignedKvar
signed_kvar n = record { 0 = n }

abbrev pub var : ℕ → Var
var n = record { 0 = n }

abbrev pub kvar_price : ℕ → KvarPrice
kvar_price n = record { 0 = n }

abbrev pub var_price : ℕ → VarPrice
var_price n = record { 0 = n }
