-- What is written of reactive power.
use Rattle.std.specs.Prelude.{◌≡◌, refl, ◌++◌}
use Rattle.layouts.specs.Layout.{bits_of, nat, ◌then◌, held}
use Rattle.model.specs.Case.{ReactiveReserves}
use Rattle.model.specs.ByEdition as B
use Rattle.kilovars.specs.declared.Var.{Var}

-- a zone's two, from the code's
abbrev pub two_of : Var → Var → ReactiveReserves
two_of qru qrd = record { qru = qru.0; qrd = qrd.0 }

-- the two, one behind the other
pub two_is : (qru qrd : Var) → bits_of 33 qru.0 ++ bits_of 33 qrd.0 ≡ (B.reactive_choice).write (two_of qru qrd)
unfolding B.reactive_choice held ◌then◌ nat
two_is qru qrd = refl
