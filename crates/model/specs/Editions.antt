-- What depends on a message's edition: widths and limits, each with the edition that it came with. An edition is a number.
use Rattle.std.specs.Prelude.{ℕ, min}
use Rattle.bits.specs.Pick.{pick}
use Rattle.layouts.specs.Since.{has}

-- the newest edition there is
abbrev pub newest : ℕ
newest = 5

-- ---- counts

-- the largest counts that a reader takes, in whatever edition
pub record Largest : Type 0 where
  pub devices : ℕ
  pub intervals : ℕ

-- the widths of counts and of most starts, and the edition's own limits
pub record Widths : Type 0 where
  pub device_bits : ℕ
  pub device_limit : ℕ
  pub interval_bits : ℕ
  pub interval_limit : ℕ
  pub starts_bits : ℕ
  pub most_starts : ℕ

-- "devices 5 (1..16); intervals 6 (1..48)"; "most starts 6 (0..48)"
abbrev pub small_widths : Widths
small_widths = record { device_bits = 5; device_limit = 16; interval_bits = 6; interval_limit = 48; starts_bits = 6; most_starts = 48 }

-- "Edition 4 .. has 7-bit device and interval counts and 7-bit most starts (0..96), and raises the limits to 64 and 96"
abbrev pub large_widths : Widths
large_widths = record { device_bits = 7; device_limit = 64; interval_bits = 7; interval_limit = 96; starts_bits = 7; most_starts = 96 }

-- "editions 1 to 3 keep their widths and limits"
abbrev pub widened : ℕ → ℕ → ℕ → ℕ
widened e after before = pick (has 4 e) after before

abbrev pub widths_of : ℕ → Widths
widths_of e = record {
  device_bits = widened e large_widths.device_bits small_widths.device_bits;
  device_limit = widened e large_widths.device_limit small_widths.device_limit;
  interval_bits = widened e large_widths.interval_bits small_widths.interval_bits;
  interval_limit = widened e large_widths.interval_limit small_widths.interval_limit;
  starts_bits = widened e large_widths.starts_bits small_widths.starts_bits;
  most_starts = widened e large_widths.most_starts small_widths.most_starts;
}

abbrev pub device_bits : ℕ → ℕ
device_bits e = (widths_of e).device_bits

abbrev pub interval_bits : ℕ → ℕ
interval_bits e = (widths_of e).interval_bits

-- the edition's own limits, and what of it a reader takes
abbrev pub device_limit : ℕ → ℕ
device_limit e = (widths_of e).device_limit

abbrev pub interval_limit : ℕ → ℕ
interval_limit e = (widths_of e).interval_limit

abbrev pub devices_in : ℕ → Largest → ℕ
devices_in e l = min l.devices (device_limit e)

abbrev pub intervals_in : ℕ → Largest → ℕ
intervals_in e l = min l.intervals (interval_limit e)

-- the largest counts that any reader takes in any edition: what rules and sizes are proved for
abbrev pub most_devices : ℕ
most_devices = 64

abbrev pub most_intervals : ℕ
most_intervals = 96

-- the batch program's, and the host library's
abbrev pub batch : Largest
batch = record { devices = 16; intervals = 48 }

abbrev pub host : Largest
host = record { devices = most_devices; intervals = most_intervals }

-- ---- further limits

-- "zones 3 (0..4)"
abbrev pub most_zones : ℕ
most_zones = 4

-- "startup states 3 (0..3)": "Three becomes the limit in every edition"
abbrev pub most_states : ℕ
most_states = 3

-- "start windows 3 (0..4)"; "energy windows 3 (0..4)"
abbrev pub most_windows : ℕ
most_windows = 4

abbrev pub starts_bits : ℕ → ℕ
starts_bits e = (widths_of e).starts_bits

abbrev pub most_starts : ℕ → ℕ
most_starts e = (widths_of e).most_starts
