-- A zone as it is read: its figures by value, its minima in its part of the table.
use Rattle.std.specs.Prelude.{◌≡◌, List, ℕ, length, get_or}
use Rattle.layouts.specs.declared.Place.{Place}
use Rattle.layouts.specs.Layout.{Layout, ◌▸◌, figure}
use Rattle.layouts.specs.Since.{since}
use Rattle.model.specs.Case as C
use Rattle.model.specs.Messages as M
use Rattle.model.specs.ByEdition as B
use Rattle.row_places.specs.declared.Zone.{Zone}
use Rattle.row_places.specs.Figures.{zone_of, zone_row, minima_row}
use Rattle.records.specs.Views.{shares_in, zone_in, six_in, kinds_in, minima_in}
use Rattle.kilovars.specs.Reactive.{var_price}
use Rattle.row_places.specs.declared.Minima.{Minima}
use Rattle.fields.specs.Got.{Got, got, seen}

-- a zone of what every edition has
abbrev pub zone_from : (shares prices : List ℕ) → Zone
zone_from shares prices = record { rgu = get_or shares 0 0; rgd = get_or shares 1 0; scr = get_or shares 2 0; nsc = get_or shares 3 0; prices = prices; qru = var_price 1; qrd = var_price 1 }

-- "shares ..; shortfall prices ..", of every edition
abbrev pub terms : Layout (C.Shares × C.Six)
terms = M.shares ▸ M.six (figure 7 1 100)

abbrev pub terms_in : Zone → C.Shares × C.Six
terms_in z = (shares_in (zone_row z), six_in z.prices)

-- all that stands ahead of a zone's intervals
abbrev pub ahead : ℕ → Layout ((C.Shares × C.Six) × C.ReactiveReserves)
ahead e = terms ▸ since e 2 C.unit_prices B.zone_reactive_prices

abbrev pub ahead_in : Zone → (C.Shares × C.Six) × C.ReactiveReserves
ahead_in z = (terms_in z, record { qru = z.qru.0; qrd = z.qrd.0 })

-- an interval's minima of every edition, and all of them
abbrev pub pair_in : List ℕ → C.Minima
pair_in v = record { rru = get_or v 0 0; rrd = get_or v 1 0; reactive = C.no_reactive_reserves }

abbrev pub interval_in : Minima → C.Minima
interval_in x = minima_in (minima_row x)

-- a zone's row with its part of the minima
abbrev pub zone_pair : List ℕ → List (List ℕ) → C.Zone × C.Kinds
zone_pair r minima = (zone_in r minima, kinds_in (zone_of r))

pub record ZoneDone (e : ℕ) (s : List ℕ) (p : Place) (r : Got Zone) (minima : List (List ℕ)) : Type 0 where
  pub is : seen (λ z. zone_pair (zone_row z) minima) r ≡ got (B.zone e (length minima)) s p
