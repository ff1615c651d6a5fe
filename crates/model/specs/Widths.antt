-- What is known of widths and limits without knowing the edition, and of those before edition 4.
use Rattle.std.specs.Prelude.{◌≡◌, refl, Bool, true, false, ℕ, ◌+◌, ◌^◌, ◌≤◌, ◌<◌}
use Rattle.std.proofs.Common.{arith}
use Rattle.bits.specs.Pick.{pick}
use Rattle.layouts.specs.Since.{has}
use Rattle.model.specs.Editions.{Widths, small_widths, large_widths, widths_of, most_devices, most_intervals, newest, most_starts}

-- "editions 1 to 3 keep their widths and limits"
pub older-widths : (e : ℕ) → has 4 e ≡ false → widths_of e ≡ small_widths
older-widths e h = rw h refl

pub record Bounded (w : Widths) : Type 0 where
  -- no field of a count or of most starts has more bits, and each holds its limit
  pub device_bits : w.device_bits ≤ 7
  pub devices : w.device_limit < 2 ^ w.device_bits
  pub device_limit : w.device_limit ≤ most_devices
  pub interval_bits : w.interval_bits ≤ 7
  pub intervals : w.interval_limit < 2 ^ w.interval_bits
  pub interval_limit : w.interval_limit ≤ most_intervals
  pub starts_bits : w.starts_bits ≤ 7
  pub starts : w.most_starts < 2 ^ w.starts_bits
  pub most_starts : w.most_starts ≤ most_starts newest

small-bounded : Bounded small_widths
small-bounded = record {
  device_bits = omega arith;
  devices = omega arith;
  device_limit = omega arith;
  interval_bits = omega arith;
  intervals = omega arith;
  interval_limit = omega arith;
  starts_bits = omega arith;
  starts = omega arith;
  most_starts = omega arith;
}

large-bounded : Bounded large_widths
large-bounded = record {
  device_bits = omega arith;
  devices = omega arith;
  device_limit = omega arith;
  interval_bits = omega arith;
  intervals = omega arith;
  interval_limit = omega arith;
  starts_bits = omega arith;
  starts = omega arith;
  most_starts = omega arith;
}

-- in every edition
pub bounded : (e : ℕ) → Bounded (widths_of e)
bounded e = go (has 4 e) refl
  where
    go : (b : Bool) → has 4 e ≡ b → Bounded (widths_of e)
    go true h = rw h large-bounded
    go false h = rw h small-bounded
