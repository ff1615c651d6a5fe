-- A plan and the plan with one online power replaced: as bits of their messages they differ in that field alone.
use Rattle.std.specs.Prelude.{◌≡◌, List, ◌++◌, ℕ, ◌+◌, ◌*◌, length}
use Rattle.numbers.specs.Sum.{gate}
use Rattle.layouts.specs.Layout.{bits_of}
use Rattle.layouts.specs.Since.{has}
use Rattle.model.specs.Editions.{widths_of}

-- bits that differ in one field of 17 bits, an online power's, at a place: `old` in the first, `new` in the second
pub record OneField (at old new : ℕ) (xs ys : List ℕ) : Type 0 where
  pub ahead : List ℕ
  pub behind : List ℕ
  pub place : length ahead ≡ at
  pub was : xs ≡ ahead ++ (bits_of 17 old ++ behind)
  pub is : ys ≡ ahead ++ (bits_of 17 new ++ behind)

-- ---- widths

-- "on 1, online power 17, eight reserves 17 each"; since edition 2 q 18 and two reactive reserves 17 each
abbrev pub setting_width : ℕ → ℕ
setting_width e = 154 + gate (has 2 e) 52

-- the devices of an interval; since edition 5 a flow of 18 behind them
abbrev pub row_width : ℕ → ℕ → ℕ
row_width e devices = devices * setting_width e + gate (has 5 e) 18

-- behind kind, edition and counts, so many intervals, devices and the bit of "on": where an online power stands, interval and device counted from 0
abbrev pub online_place : ℕ → ℕ → ℕ → ℕ → ℕ
online_place e devices t i = 4 + (4 + ((widths_of e).device_bits + ((widths_of e).interval_bits + (t * row_width e devices + (i * setting_width e + 1)))))
