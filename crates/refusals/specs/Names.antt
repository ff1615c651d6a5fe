-- "Messages": the fields of a case and a plan by name. Devices, intervals, zones, states, windows and blocks count from 0.
use Rattle.std.specs.Prelude.{ℕ}

-- the eight reserves
pub data Reserve : Type 0 where
  rgu rgd scr nsc rru_on rru_off rrd_on rrd_off : Reserve

-- "up before down"
pub data Direction : Type 0 where
  up down : Direction

-- a zone: "shares ..; shortfall prices ..; per interval .. minima"
pub data ZoneField : Type 0 where
  rgu_share rgd_share scr_share nsc_share : ZoneField
  rgu_price rgd_price scr_price nsc_price rru_price rrd_price : ZoneField
  reactive_price : Direction → ZoneField
  minimum reactive_minimum : (interval : ℕ) → Direction → ZoneField

-- the lines of a link: "upper before lower, the equality once", as the upper
pub data LineField : Type 0 where
  offset slope : LineField

-- a window: "start 16, end 16", and what it asks for
pub data WindowField : Type 0 where
  window_start window_end most_starts window_kind energy : WindowField

-- "Per device": what stands ahead of its intervals
pub data DeviceField : Type 0 where
  side zone_bits on0 power0 minutes0 min_up min_down : DeviceField
  ramp_up ramp_down ramp_starting ramp_stopping : DeviceField
  on_cost start_cost stop_cost : DeviceField
  limit : Reserve → DeviceField
  state_count : DeviceField
  longest state_cost : (state : ℕ) → DeviceField
  start_window_count : DeviceField
  start_window : (window : ℕ) → WindowField → DeviceField
  energy_window_count : DeviceField
  energy_window : (window : ℕ) → WindowField → DeviceField
  link_kind : DeviceField
  upper_line lower_line : LineField → DeviceField
  bar : DeviceField

-- a device's figures of an interval
pub data CellField : Type 0 where
  status pmin pmax block_count : CellField
  cap floor block_price : (block : ℕ) → CellField
  reserve_price : Reserve → CellField
  qmin qmax : CellField
  reactive_reserve_price : Direction → CellField

-- a plan: "per interval, per device"
pub data SettingField : Type 0 where
  on online : SettingField
  reserve : Reserve → SettingField
  q : SettingField
  reactive_reserve : Direction → SettingField

pub data Name : Type 0 where
  kind edition device_count interval_count zone_count : Name
  mismatch_price overrun_price link_limit : Name
  half : (interval : ℕ) → Name
  of_zone : (zone : ℕ) → ZoneField → Name
  of_device : (device : ℕ) → DeviceField → Name
  of_cell : (device interval : ℕ) → CellField → Name
  of_setting : (interval device : ℕ) → SettingField → Name
  flow : (interval : ℕ) → Name
