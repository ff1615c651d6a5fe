-- What the records of the reader hold of reactive power.
use Rattle.std.specs.Prelude.{ℕ, ◌+◌, ◌*◌, ◌≤◌}
use Rattle.model.specs.Case.{ReactiveLimits, ReactiveReserves}
use Rattle.row_places.specs.declared.ReactiveCell.{ReactiveCell}
use Rattle.kilovars.specs.Reactive.{kvar_offset}
use Rattle.records.specs.Views.{less, reactive_limits_in, reactive_prices_in}
use Rattle.reactive_cells.specs.declared.Limits.{Limits}
use Rattle.reactive_cells.specs.declared.Prices.{Prices}

abbrev pub limits_in : Limits → ReactiveLimits
limits_in r = record { qmin = less kvar_offset r.qmin.0; qmax = less kvar_offset r.qmax.0 }

abbrev pub prices_in : Prices → ReactiveReserves
prices_in r = record { qru = r.qru.0; qrd = r.qrd.0 }

abbrev pub reactive_pair : ReactiveCell → ReactiveLimits × ReactiveReserves
reactive_pair r = (reactive_limits_in r, reactive_prices_in r)

-- qmin and qmax, then the two prices
abbrev pub limits_bits : ℕ
limits_bits = 2 * 18

abbrev pub prices_bits : ℕ
prices_bits = 2 * 14

abbrev pub reactive_bits : ℕ
reactive_bits = limits_bits + prices_bits

-- each is in its range, and qmin is not above qmax
pub record ReactiveFits (qmin qmax qru qrd : ℕ) : Type 0 where
  pub qmin-fits : qmin ≤ qmax
  pub qmax-fits : qmax ≤ 2 * kvar_offset
  pub qru-fits : qru ≤ 10000
  pub qrd-fits : qrd ≤ 10000
