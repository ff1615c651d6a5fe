-- The steps of reading what a zone has of reactive reserves.
use mathlib.Core.Path.{◌≡◌, refl}
use mathlib.Core.List.{List, []}
use Prim.Native.Nat.{ℕ, ◌≤◌, ◌<◌}
use native.Mathlib.Omega.{arith}
use lib.ListN.{length, get_or, take}
use lib.Seq.{take_all}
use Rattle.layouts.specs.declared.Place.{Place}
use Rattle.layouts.specs.Layout.{list, repeated, ◌then◌, held, figure}
use Rattle.layouts.specs.Since.{has, since}
use Rattle.model.specs.Case.{ReactiveReserves, no_reactive_reserves, unit_prices}
use Rattle.model.specs.ByEdition.{reactive_minima, zone_reactive_prices}
use Rattle.std.specs.Prelude.{Ok, Err}
use Rattle.layouts.specs.declared.Fault.{Fault}
use Rattle.fields.specs.Got.{Got, got, good, bad, Natural, nat-natural, then-natural, held-natural, mapped}
use Rattle.fields.specs.Since.{present-natural, field-absent, field-there}
use Rattle.field_rows.specs.Each.{list-natural}
use Rattle.reactive_zones.specs.Two.{two, two_of}

-- ---- any reader goes on from them

two-natural : (w l h : ℕ) → Natural (two (figure w l h))
two-natural w l h = held-natural _ _ (then-natural (nat-natural _) (λ a. nat-natural _))

pub prices-natural : (e : ℕ) → Natural (since e 2 unit_prices zone_reactive_prices)
unfolding zone_reactive_prices
prices-natural e = present-natural (has 2 e) unit_prices (two-natural 7 1 100)

pub minima-natural : (e : ℕ) → Natural (since e 2 no_reactive_reserves reactive_minima)
unfolding reactive_minima
minima-natural e = present-natural (has 2 e) no_reactive_reserves (two-natural 23 0 6400000)

-- ---- two fields, by name

pub two-good : (width low high : ℕ) (s : List ℕ) (p : Place) {q : Place} (v : List ℕ) → length v ≡ 2 → good (take 2 v) q ≡ got (list 2 (figure width low high)) s p
    → good (two_of v) q ≡ got (two (figure width low high)) s p
unfolding held ◌then◌ list repeated
two-good width low high s p {q} v l e = mapped (list-natural 2 (nat-natural _)) two_of s p (Ok q) v refl (rw (take_all 2 v (omega arith)) at e)

pub two-bad : (width low high : ℕ) (s : List ℕ) (p : Place) {f : Fault} → bad f ≡ got (list 2 (figure width low high)) s p → bad f ≡ got (two (figure width low high)) s p
unfolding held ◌then◌ list repeated
two-bad width low high s p {f} e = mapped (list-natural 2 (nat-natural _)) two_of s p (Err f) [] refl e

-- ---- by edition

module _ (e : ℕ) (s : List ℕ) (p : Place) where
  pub prices-absent : e < 2 → good unit_prices p ≡ got (since e 2 unit_prices zone_reactive_prices) s p
  prices-absent h = field-absent 2 e unit_prices zone_reactive_prices s p h

  pub prices-there : {g : Got ReactiveReserves} → 2 ≤ e → g ≡ got (two (figure 7 1 100)) s p → g ≡ got (since e 2 unit_prices zone_reactive_prices) s p
  unfolding zone_reactive_prices
  prices-there h t = field-there 2 e unit_prices zone_reactive_prices s p h t

  pub minima-absent : e < 2 → good no_reactive_reserves p ≡ got (since e 2 no_reactive_reserves reactive_minima) s p
  minima-absent h = field-absent 2 e no_reactive_reserves reactive_minima s p h

  pub minima-there : {g : Got ReactiveReserves} → 2 ≤ e → g ≡ got (two (figure 23 0 6400000)) s p → g ≡ got (since e 2 no_reactive_reserves reactive_minima) s p
  unfolding reactive_minima
  minima-there h t = field-there 2 e no_reactive_reserves reactive_minima s p h t
