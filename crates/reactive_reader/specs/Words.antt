-- The reactive figures of a setting as bits of the message, and what the quick reading of them answers.
use Rattle.std.specs.Prelude.{◌≡◌, List, ℕ, ◌+◌, ◌*◌, ◌%◌, ◌^◌, ◌≤◌}
use Rattle.bits.specs.Bits.{field_at, reach}
use Rattle.kilovars.specs.Reactive.{kvar_offset}
use Rattle.row_places.specs.declared.Reactive.{Reactive}

-- "q (as qmax)", "18 bits, ±100,000"; "two reactive reserves (17 each)"
abbrev pub q_bits : ℕ
q_bits = 18

abbrev pub reserve_bits : ℕ
reserve_bits = 17

abbrev pub most_reserve : ℕ
most_reserve = 100000

abbrev pub reactive_bits : ℕ
reactive_bits = q_bits + 2 * reserve_bits

-- q as it is kept
pub record InRanges (x : Reactive) : Type 0 where
  pub q : x.q.0 ≤ 2 * kvar_offset
  pub qru : x.qru.0 ≤ most_reserve
  pub qrd : x.qrd.0 ≤ most_reserve

-- these fields from bit `at` on are there, in their ranges, and x has them
pub record Found (s : List ℕ) (at : ℕ) (x : Reactive) : Type 0 where
  pub there : at + reactive_bits ≤ 8 * reach s
  pub q : x.q.0 ≡ (field_at s at q_bits + kvar_offset) % 2 ^ q_bits
  pub qru : x.qru.0 ≡ field_at s (at + q_bits) reserve_bits
  pub qrd : x.qrd.0 ≡ field_at s (at + q_bits + reserve_bits) reserve_bits
  pub range : InRanges x
