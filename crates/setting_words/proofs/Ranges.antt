-- Three powers taken from the greatest three: what the bits ahead of them tell.
use mathlib.Core.Path.{◌≡◌, refl}
use Prim.Native.Nat.{ℕ, ◌+◌, ◌-◌, ◌*◌, ◌/◌, ◌%◌, ◌^◌}
use native.Mathlib.Omega.{arith}
use lib.Bits.{bit_and, bit_or, bit_xor}
use Rattle.word_fields.proofs.Ranges.{either-bit, masked-bit, none_above}
use Rattle.setting_words.specs.Settings.{kw_bits, most_kw, three_bits, Low, Unborrowed}

-- ---- three words at once

abbrev ahead : ℕ
ahead = 2 ^ three_bits + 2 ^ (2 * kw_bits) + 2 ^ kw_bits

pub unborrowed : (u v w : ℕ) → bit_and (bit_or (bit_or u v) w) ahead ≡ 0 → Unborrowed u × Unborrowed v × Unborrowed w
unborrowed u v w e =
    let all = bit_or (bit_or u v) w in
    let x = either-bit (bit_or u v) w three_bits (masked-bit all ahead three_bits e refl) in
    let y = either-bit (bit_or u v) w (2 * kw_bits) (masked-bit all ahead (2 * kw_bits) e refl) in
    let z = either-bit (bit_or u v) w kw_bits (masked-bit all ahead kw_bits e refl) in
    let a = either-bit u v three_bits x.0 in
    let b = either-bit u v (2 * kw_bits) y.0 in
    let c = either-bit u v kw_bits z.0 in (
      record { first = a.0; second = b.0; third = c.0 },
      record { first = a.1; second = b.1; third = c.1 },
      record { first = x.1; second = y.1; third = z.1 },
    )

-- ---- the ranges

-- the greatest power, in each of the three fields
abbrev most : ℕ
most = most_kw * (2 ^ (2 * kw_bits) + 2 ^ kw_bits + 1)

pub low-powers : (word : ℕ) → Unborrowed (bit_xor (2 * 2 ^ three_bits + most - word % 2 ^ three_bits) (word % 2 ^ three_bits)) → Low word
low-powers word u =
    let v = word % 2 ^ three_bits in
    let half = most_kw / 2 in
    let a = none_above three_bits 1 most v (omega arith) u.first in
    let b = none_above (2 * kw_bits) (2 ^ kw_bits + half) (most_kw * (2 ^ kw_bits + 1)) v (omega arith) u.second in
    let c = none_above kw_bits (2 ^ (2 * kw_bits) + half * (2 ^ kw_bits + 1)) most_kw v (omega arith) u.third in
    record { first = omega arith; second = omega arith; third = omega arith }
