-- The sizes of our completion: each figure fits its field, for a case and a plan within their ranges that break no rule.
use Rattle.std.specs.Prelude.{[], get_or}
use Prim.Native.Nat.{ℕ, zero, suc, ◌+◌, ◌-◌, ◌*◌, ◌^◌, ◌≤◌, ◌<◌, max}
use native.Mathlib.Omega.{arith}
use Rattle.std.proofs.Math.Nat.{zero-mul, one-mul}
use Rattle.std.proofs.Math.IntN.{ℤ, nat_abs}
use Rattle.model.specs.Case.{System, Plan, Case, no_device, no_block, no_cell, no_setting, no_kinds}
use Rattle.model.specs.Forced.{intervals, devices, zones, device, cell, cap, floor}
use Rattle.model.specs.Forced.{setting, u, least}
use Rattle.model.specs.Rules.{blocks, EveryRule}
use Rattle.model.specs.Completion as C
use Rattle.ranges.specs.Ranges.{SystemRange, DeviceRange, BlockRange, CellRange, TwoRange, ReactivePriceRange, PlanRange, SettingRange, Eight}
use Rattle.numbers.specs.Every.{all-at, all-or}
use Rattle.model.specs.Editions.{most_zones, most_windows}

-- ---- the greatest figures that pass reading, each with its words

-- "A 17-bit power is 0..100,000", kW
abbrev pub most_power : ℕ
most_power = 100000

-- "Per interval: d/2, 8 (1..180)"
abbrev pub most_minutes : ℕ
most_minutes = 360

-- "(0..1,000 thousandths)"
abbrev pub most_share : ℕ
most_share = 1000

-- a kW in W
abbrev pub watts : ℕ
watts = 1000

-- "rru and rrd minima 23 each (0..6,400,000)", kW
abbrev pub most_minimum : ℕ
most_minimum = 6400000

-- "energy 32 (0..4·10^9)"
abbrev pub most_energy : ℕ
most_energy = 4000000000

-- "(1..10,000 per kW·min)"; "price 15 (±10,000)"; "eight reserve prices 14 each (0..10,000)"
abbrev pub most_price : ℕ
most_price = 10000

-- "(1..100 per W·min)"
abbrev pub most_shortfall_price : ℕ
most_shortfall_price = 100

-- "on cost per minute 17 (0..100,000)"
abbrev pub most_on_cost : ℕ
most_on_cost = 100000

-- "start, stop cost 30 each (0..10^9)"; "cost 31 (±10^9)"
abbrev pub most_change : ℕ
most_change = 1000000000

-- ---- the greatest needs, of n devices and m intervals

-- the power of a side
abbrev pub most_total : ℕ → ℕ
most_total n = n * most_power

-- "a flow from bar 0 to bar 1 (18 bits, ±100,000)", kW
abbrev pub most_flow : ℕ
most_flow = 100000

-- the mismatch of a bar: at most the larger side's power, and the flow
abbrev pub most_mismatch : ℕ → ℕ
most_mismatch n = most_total n + most_flow

abbrev pub bar_count : ℕ
bar_count = 2

-- W: a minimum, or shares of the load and twice of the largest unit
abbrev pub most_shortfall : ℕ → ℕ
most_shortfall n = max (watts * most_minimum) (most_share * most_total n + 2 * (most_share * most_power))

-- var: "Zones gain two minima in kvar .., with rru's widths and ranges"
abbrev pub most_reactive_shortfall : ℕ
most_reactive_shortfall = watts * most_minimum

-- kW·min: a minimum, or a set's energy over the day
abbrev pub most_overrun : ℕ → ℕ
most_overrun m = max most_energy (m * (most_minutes * most_power))

-- ---- the greatest terms of a surplus, of n devices and m intervals: grains of a cell, a zone or an interval

-- "blocks 3 (0..4)"
abbrev pub most_blocks : ℕ
most_blocks = 4

-- "The eight"; the six kinds of shortfall
abbrev pub reserve_kinds : ℕ
reserve_kinds = 8

abbrev pub shortfall_kinds : ℕ
shortfall_kinds = 6

-- of reactive power: two kinds of reserve, and of shortfall
abbrev pub reactive_kinds : ℕ
reactive_kinds = 2

abbrev pub most_block_worth : ℕ
most_block_worth = most_minutes * (most_blocks * (most_price * most_power))

abbrev pub most_on_costs : ℕ
most_on_costs = most_minutes * (most_on_cost * 1)

-- start, stop and state
abbrev pub most_changes : ℕ
most_changes = 3 * most_change

abbrev pub most_reserves : ℕ
most_reserves = most_minutes * (reserve_kinds * (most_price * most_power))

abbrev pub most_shortfall_cost : ℕ → ℕ
most_shortfall_cost n = most_minutes * (shortfall_kinds * (most_shortfall_price * most_shortfall n))

abbrev pub most_mismatch_cost : ℕ → ℕ
most_mismatch_cost n = most_minutes * (most_price * most_mismatch n)

abbrev pub most_reactive_reserves : ℕ
most_reactive_reserves = most_minutes * (reactive_kinds * (most_price * most_power))

abbrev pub most_reactive_shortfall_cost : ℕ
most_reactive_shortfall_cost = most_minutes * (reactive_kinds * (most_shortfall_price * most_reactive_shortfall))

abbrev pub most_overrun_cost : ℕ → ℕ → ℕ
most_overrun_cost n m = most_price * (n * (most_windows * most_overrun m))

-- the greatest surplus in size: of real power, and what reactive power takes of it
abbrev pub most_real_surplus : ℕ → ℕ → ℕ
most_real_surplus n m =
    m * (n * most_block_worth) + m * (n * most_on_costs) + m * (n * most_changes) + m * (n * most_reserves) + m * (most_zones * most_shortfall_cost n)
    + m * (bar_count * most_mismatch_cost n) + most_overrun_cost n m

abbrev pub most_reactive_costs : ℕ → ℕ → ℕ
most_reactive_costs n m = m * (n * most_reactive_reserves) + m * (most_zones * most_reactive_shortfall_cost) + m * (bar_count * most_mismatch_cost n)

abbrev pub most_surplus : ℕ → ℕ → ℕ
most_surplus n m = most_real_surplus n m + most_reactive_costs n m

-- "our surplus stays below 10^18 in size"
abbrev pub surplus_limit : ℕ
surplus_limit = 10 ^ 18

-- what passes reading
module _ (q : System) (p : Plan) (rq : SystemRange q) (rp : PlanRange q p) where
  pub device-in : (i : ℕ) → i < devices q → DeviceRange (intervals q) (device q i)
  device-in i l = all-at (DeviceRange (intervals q)) no_device q.devices rq.each_device i l

  pub cell-in : (t i : ℕ) → t < intervals q → i < devices q → CellRange (cell q t i)
  cell-in t i l m = all-at CellRange no_cell (device q i).cells (device-in i m).cells t (omega (arith, (device-in i m).each))

  pub setting-in : (t i : ℕ) → t < intervals q → i < devices q → SettingRange (setting q p t i)
  setting-in t i l m = let r = all-at _ [] p.settings rp.each t (omega (arith, rp.intervals)) in all-at SettingRange no_setting (get_or p.settings t []) r.1 i (omega (arith, r.0))

  pub block-in : (t i k : ℕ) → t < intervals q → i < devices q → BlockRange (get_or (cell q t i).blocks k no_block)
  block-in t i k l m = all-or BlockRange no_block (record { cap = omega arith; floor = omega arith }) (cell q t i).blocks (cell-in t i l m).each k

  -- a floor is not above its cap, and one that binds is the floor
  pub floored : (t i : ℕ) → t < intervals q → i < devices q → (k : ℕ) → k < 4 → least q p t i k ≤ cap q t i k
  unfolding least u
  floored t i l m k h = go (setting q p t i).on (floor q t i k) (setting-in t i l m).on (block-in t i k l m).floor
    where
      go : (v f : ℕ) → v ≤ 1 → f ≤ cap q t i k → v * f ≤ cap q t i k
      go zero f a b = omega (arith, zero-mul f)
      go (suc zero) f a b = omega (arith, one-mul f)
      go (suc (suc v)) f a b = absurd (omega arith)

-- ---- our completion fits its message
module _ (c : Case) (p : Plan) (rq : SystemRange c.system) (rp : PlanRange c.system p) (ok : EveryRule c.system p) where
  abbrev pub q : System
  q = c.system

-- ---- the surplus

-- the ranges of prices
pub record PriceRange (c : Case) : Type 0 where
  pub mismatch : c.prices.mismatch ≤ most_price
  pub overrun : c.prices.overrun ≤ most_price
  pub shortfall : (z : ℕ) (k : C.Shortfall) → C.shortfall_price (get_or c.prices.zones z no_kinds).six k ≤ most_shortfall_price
  pub reactive_shortfall : (z : ℕ) → TwoRange most_shortfall_price (get_or c.prices.zones z no_kinds).reactive
  pub on : (i : ℕ) → (C.device_prices c i).on_cost ≤ most_on_cost
  pub start : (i : ℕ) → (C.device_prices c i).start_cost ≤ most_change
  pub stop : (i : ℕ) → (C.device_prices c i).stop_cost ≤ most_change
  pub state : (i : ℕ) (z : ℤ) → nat_abs (C.state_cost c i z) ≤ most_change
  pub block : (t i k : ℕ) → nat_abs (C.block_price c t i k) ≤ most_price
  pub reserve : (t i : ℕ) → Eight (λ r. r ≤ most_price) (C.cell_prices c t i).reserves
  pub reactive_reserve : (t i : ℕ) → ReactivePriceRange (C.cell_prices c t i).reactive
