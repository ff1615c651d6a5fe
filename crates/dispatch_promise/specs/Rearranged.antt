-- What goes with a list of offers into another order.
use Rattle.std.specs.Prelude.{◌⊎◌, T}
use Rattle.offers.specs.declared.Offer.{Offer}
use Rattle.offers.specs.Merit.{ahead}

-- one goes ahead of the other
abbrev pub Either : Offer → Offer → Type 0
Either m k = T (ahead k m) ⊎ T (ahead m k)
