-- The sizes of figures and of money, for any day of at most 64 devices and 96 intervals whose plan breaks no rule. Every bound is made of these names.
-- In grains, at the largest: a cell 9.4·10^12, a zone in an interval 1.4·10^15, an interval's mismatches 4.7·10^13, an overrun 4·10^13.
-- Of reactive power: reserves 7.2·10^11 a cell, shortfalls 4.6·10^14 a zone in an interval, an interval's mismatches 4.6·10^13.
-- A day's debits then come to at most 5.8·10^16 (cells) + 5.5·10^17 (shortfalls) + 4.5·10^15 (mismatches) + 1.0·10^16 (overruns) + 1.9·10^17 (reactive),
-- near 8.1·10^17; its credits are of cells alone, at most 1.8·10^16. Both stay below 2^62, which is 4.6·10^18.
use Rattle.std.specs.Prelude.{ℕ, ◌+◌, ◌*◌, ◌^◌, ◌<◌}
use Rattle.std.proofs.Common.{arith}
-- the greatest figures that pass reading, by the names that money has for them
pub use Rattle.theorems.specs.Sizes.{
  most_power as power_most,
  most_minutes as minutes_most,
  most_price as price_most,
  most_shortfall_price as short_price_most,
  most_on_cost as rate_most,
  most_change as cost_most,
  most_energy as limit_most,
  most_share as share_most,
  most_reactive_shortfall as reactive_shortfall_most,
  most_reactive_reserves as reactive_reserves_most,
  most_reactive_shortfall_cost as reactive_zone_most,
}
use Rattle.theorems.specs.Sizes.{most_total, most_mismatch, bar_count}
use Rattle.records.specs.Views.{price_offset, cost_offset, most_devices, most_intervals, most_zones, most_windows}

-- ---- figures

-- a block's price kept from 0
abbrev pub kept_most : ℕ
kept_most = price_offset + price_most

-- blocks of a device in an interval
abbrev pub blocks_most : ℕ
blocks_most = 4

-- ---- what follows of them

-- kW: one side's power
abbrev pub load_most : ℕ
load_most = most_devices * power_most

-- kW: the mismatches of both bars
abbrev pub mismatch_most : ℕ
mismatch_most = bar_count * most_mismatch most_devices

-- W: the shares of the load, and of the largest unit for scr and nsc
abbrev pub shortfall_most : ℕ
shortfall_most = share_most * (load_most + power_most + power_most)

-- ---- money

-- a power at a price, kept from 0 or not: each minute, over an interval
abbrev pub worth_most : ℕ
worth_most = kept_most * power_most

abbrev pub value_most : ℕ
value_most = minutes_most * worth_most

-- blocks at their prices and p at the offset
abbrev pub trade_most : ℕ
trade_most = blocks_most * value_most + value_most

abbrev pub on_most : ℕ
on_most = rate_most * minutes_most

abbrev pub state_most : ℕ
state_most = cost_offset + (cost_offset + cost_most)

abbrev pub change_most : ℕ
change_most = cost_most + cost_most + state_most

-- the eight
abbrev pub reserves_most : ℕ
reserves_most = 8 * value_most

abbrev pub cell_most : ℕ
cell_most = reserves_most + trade_most + on_most + change_most

-- one shortfall, and the six of a zone
abbrev pub short_most : ℕ
short_most = minutes_most * (short_price_most * shortfall_most)

abbrev pub zone_most : ℕ
zone_most = 6 * short_most

abbrev pub mismatch_cost_most : ℕ
mismatch_cost_most = mismatch_most * minutes_most * price_most

-- kvar: on each bar at most the reactive power of all, and what that costs
abbrev pub reactive_mismatch_most : ℕ
reactive_mismatch_most = bar_count * most_total most_devices

abbrev pub reactive_mismatch_cost_most : ℕ
reactive_mismatch_cost_most = minutes_most * (price_most * reactive_mismatch_most)

abbrev pub overrun_cost_most : ℕ
overrun_cost_most = limit_most * price_most

-- real and reactive: a device in an interval, a zone, the mismatches
abbrev pub device_most : ℕ
device_most = cell_most + reactive_reserves_most

abbrev pub kinds_most : ℕ
kinds_most = zone_most + reactive_zone_most

abbrev pub mismatches_most : ℕ
mismatches_most = mismatch_cost_most + reactive_mismatch_cost_most

abbrev pub interval_most : ℕ
interval_most = most_devices * device_most + most_zones * kinds_most + mismatches_most

abbrev pub windows_cost_most : ℕ
windows_cost_most = most_windows * overrun_cost_most

abbrev pub day_most : ℕ
day_most = most_intervals * interval_most + most_devices * windows_cost_most

-- what a ledger has room for
abbrev pub room_most : ℕ
room_most = 2 ^ 62

pub day-fits : day_most < room_most
day-fits = omega arith
