-- Two figures of a zone's reactive reserves, "up before down", as they are read.
use Rattle.std.specs.Prelude.{List, ℕ, get_or}
use Rattle.layouts.specs.Layout.{Layout, held, ◌▸◌}
use Rattle.model.specs.Case.{ReactiveReserves}
use Rattle.reactive_zones.specs.declared.Prices.{Prices}
use Rattle.reactive_zones.specs.declared.Minima.{Minima}

abbrev pub two : Layout ℕ → Layout ReactiveReserves
two l = held (λ v. record { qru = v.0; qrd = v.1 }) (λ r. (r.qru, r.qrd)) (l ▸ l)

abbrev pub two_of : List ℕ → ReactiveReserves
two_of v = record { qru = get_or v 0 0; qrd = get_or v 1 0 }

abbrev pub prices_in : Prices → ReactiveReserves
prices_in r = record { qru = r.qru; qrd = r.qrd }

abbrev pub minima_in : Minima → ReactiveReserves
minima_in r = record { qru = r.qru.0; qrd = r.qrd.0 }
