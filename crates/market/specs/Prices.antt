-- "differ in prices and costs only, at will": the page to hold against the layouts. A case's content is its edition, its quantities (`System`) and its prices
-- and costs (`Prices`); each field of the message stands in one of them, in the order of the message:
--
--   field of a case                                     since  it is       it stands in
--   kind (always 1)                                            -           nothing: another kind is refused
--   edition                                                    quantity    edition
--   devices, intervals, zones                                  quantity    the lengths of devices, halves, zones of system
--   mismatch price                                             PRICE       prices .mismatch
--   overrun price                                              PRICE       prices .overrun
--   link limit                                            5    quantity    system .link_limit
--   interval: d/2                                              quantity    system .halves
--   zone: shares of rgu, rgd, scr, nsc                         quantity    system .zones: shares
--   zone: prices of rgu, rgd, scr, nsc, rru, rrd               PRICE       prices .zones: six
--   zone: prices of qru, qrd                              2    PRICE       prices .zones: reactive
--   zone and interval: minima rru, rrd                         quantity    system .zones: minima
--   zone and interval: minima qru, qrd                    2    quantity    system .zones: minima
--   device: side, zone bits                                    quantity    system .devices: side, zone_bits
--   device: initially on, initial power, minutes               quantity    system .devices: on0, power0, minutes0
--   device: minimum up, minimum down                           quantity    system .devices: min_up, min_down
--   device: four ramps                                         quantity    system .devices: ramps
--   device: on cost, start cost, stop cost                     COST        prices .devices: on_cost, start_cost, stop_cost
--   device: eight reserve limits                               quantity    system .devices: limits
--   device: number of startup states, longest downtimes        quantity    system .devices: longest
--   device: a startup state's cost                             COST        prices .devices: state_costs
--   device: start windows (number; start, end, most starts)    quantity    system .devices: start_windows
--   device: energy windows (number; kind, start, end, energy)  quantity    system .devices: energy_windows
--   device: link kind, offsets, slopes                    2    quantity    system .devices: link
--   device: bar                                           5    quantity    system .devices: bar
--   device and interval: status, pmin, pmax                    quantity    system .devices: cells: status, pmin, pmax
--   device and interval: number of blocks, caps                quantity    system .devices: cells: blocks
--   device and interval: a block's floor                  3    quantity    system .devices: cells: blocks
--   device and interval: a block's price                       PRICE       prices .devices: cells: blocks
--   device and interval: eight reserve prices                  PRICE       prices .devices: cells: reserves
--   device and interval: qmin, qmax                       2    quantity    system .devices: cells: reactive
--   device and interval: prices of qru, qrd               2    PRICE       prices .devices: cells: reactive
--
-- What an edition lacks has its neutral value. A list of prices is as long as its list of quantities, for both are read by one count, which is a quantity.
use Rattle.std.specs.Prelude.{◌≡◌}
use Rattle.model.specs.Case.{Prices}
use Rattle.model.specs.ByEdition.{Stated}

-- the same edition and the same quantities; of their prices and costs nothing is said
pub record SameQuantities (x y : Stated) : Type 0 where
  pub edition : x.edition ≡ y.edition
  pub system : x.case.system ≡ y.case.system

-- a case with other prices and costs
abbrev pub repriced : Stated → Prices → Stated
repriced x other = record { edition = x.edition; case = record { system = x.case.system; prices = other } }
