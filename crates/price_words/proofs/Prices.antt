-- The eight prices out of two words: their ranges, the bits of the message that they are, and what reading them gives.
use mathlib.Core.Path.{◌≡◌, refl, sym, ap, ◌∙◌}
use mathlib.Core.List.{List}
use Prim.Native.Nat.{ℕ, zero, suc, ◌+◌, ◌-◌, ◌*◌, ◌/◌, ◌^◌, ◌≤◌, ◌<◌}
use native.Mathlib.Omega.{arith}
use lib.Bits.{bit_and, bit_or, bit_xor}
use Rattle.bits.specs.Bits.{field_at, reach}
use Rattle.layouts.specs.declared.Place.{Place}
use Rattle.layouts.specs.Layout.{list, figure, advanced}
use Rattle.model.specs.Case as M
use Rattle.row_places.specs.declared.ReservePrices.{ReservePrices}
use Rattle.records.specs.Views.{eight_prices_in}
use Rattle.fields.specs.Got.{good, bad, got}
use Rattle.field_rows.proofs.Steps.{eight-list}
use Rattle.cell_groups.specs.Groups.{reserve_prices}
use Rattle.word_fields.proofs.Ranges.{either-bit, masked-bit, none_above}
use Rattle.word_fields.proofs.Words.{field_of, fields_from, fields-good}
use Rattle.price_words.specs.declared.Four.{Four}
use Rattle.price_words.specs.Prices.{price_bits, most_price, four_bits, eight_bits, price_at, eight_in, Fourfold, Low, Unborrowed, Found}

-- ---- the ranges

abbrev ahead : ℕ
ahead = 2 ^ four_bits + 2 ^ (3 * price_bits) + 2 ^ (2 * price_bits) + 2 ^ price_bits

pub unborrowed : (u v : ℕ) → bit_and (bit_or u v) ahead ≡ 0 → Unborrowed u × Unborrowed v
unborrowed u v e =
    let a = either-bit u v four_bits (masked-bit (bit_or u v) ahead four_bits e refl) in
    let b = either-bit u v (3 * price_bits) (masked-bit (bit_or u v) ahead (3 * price_bits) e refl) in
    let c = either-bit u v (2 * price_bits) (masked-bit (bit_or u v) ahead (2 * price_bits) e refl) in
    let d = either-bit u v price_bits (masked-bit (bit_or u v) ahead price_bits e refl) in
    (record { first = a.0; second = b.0; third = c.0; fourth = d.0 }, record { first = a.1; second = b.1; third = c.1; fourth = d.1 })

-- the greatest price in each of two, three and four fields
abbrev two : ℕ
two = most_price * (2 ^ price_bits + 1)

abbrev three : ℕ
three = most_price * (2 ^ (2 * price_bits) + 2 ^ price_bits + 1)

abbrev four : ℕ
four = most_price * (2 ^ (3 * price_bits) + 2 ^ (2 * price_bits) + 2 ^ price_bits + 1)

pub low-prices : (v : ℕ) → v < 2 ^ four_bits → Unborrowed (bit_xor (2 * 2 ^ four_bits + four - v) v) → Low v
low-prices v small u =
    let half = most_price / 2 in
    let a = none_above four_bits 1 four v (omega arith) u.first in
    let b = none_above (3 * price_bits) (2 ^ price_bits + half) three v (omega arith) u.second in
    let c = none_above (2 * price_bits) (2 ^ (2 * price_bits) + half * (2 ^ price_bits + 1)) two v (omega arith) u.third in
    let d = none_above price_bits (2 ^ (3 * price_bits) + half * (2 ^ (2 * price_bits) + 2 ^ price_bits + 1)) most_price v (omega arith) u.fourth in
    record { first = omega arith; second = omega arith; third = omega arith; fourth = omega arith }

-- ---- the bits

-- prices j to j + 3 of the eight from bit `at` on
pub record FourAt (s : List ℕ) (at j : ℕ) (t : Four) : Type 0 where
  pub first : t.a ≡ price_at s at j
  pub second : t.b ≡ price_at s at (j + 1)
  pub third : t.c ≡ price_at s at (j + 2)
  pub fourth : t.d ≡ price_at s at (j + 3)

pub four-of : (s : List ℕ) (at j b : ℕ) {word : ℕ} {t : Four} → word ≡ field_at s b four_bits → Fourfold word t → b ≡ at + j * price_bits → FourAt s at j t
four-of s at j b e h d = record {
  first = field_of s b 0 price_bits (3 * price_bits) e h.first ∙ place (omega arith);
  second = field_of s b price_bits price_bits (2 * price_bits) e h.second ∙ place (omega arith);
  third = field_of s b (2 * price_bits) price_bits price_bits e h.third ∙ place (omega arith);
  fourth = field_of s b (3 * price_bits) price_bits 0 e h.fourth ∙ place (omega arith);
}
  where
    place : {v w : ℕ} → v ≡ w → field_at s v price_bits ≡ field_at s w price_bits
    place d = ap (λ (n : ℕ). field_at s n price_bits) d

eight : (P : ℕ → Type 0) → P 0 → P 1 → P 2 → P 3 → P 4 → P 5 → P 6 → P 7 → (j : ℕ) → j < 8 → P j
eight P a b c d e f g h zero l = a
eight P a b c d e f g h (suc zero) l = b
eight P a b c d e f g h (suc (suc zero)) l = c
eight P a b c d e f g h (suc (suc (suc zero))) l = d
eight P a b c d e f g h (suc (suc (suc (suc zero)))) l = e
eight P a b c d e f g h (suc (suc (suc (suc (suc zero))))) l = f
eight P a b c d e f g h (suc (suc (suc (suc (suc (suc zero)))))) l = g
eight P a b c d e f g h (suc (suc (suc (suc (suc (suc (suc zero))))))) l = h
eight P a b c d e f g h (suc (suc (suc (suc (suc (suc (suc (suc j)))))))) l = absurd (omega arith)

pub found : (s : List ℕ) (at : ℕ) {u v : ℕ} {x y : Four} {r : ReservePrices} → at + eight_bits ≤ 8 * reach s → eight_prices_in r ≡ eight_in x y
    → FourAt s at 0 x → FourAt s at 4 y → Fourfold u x → Fourfold v y → Low u → Low v → Found s at r
found s at there whole f g d e o q = record {
  there = there;
  is = whole ∙ rw (f.first, f.second, f.third, f.fourth, g.first, g.second, g.third, g.fourth) refl;
  range = eight (λ j. price_at s at j ≤ most_price)
      (omega (arith, f.first, d.first, o.first)) (omega (arith, f.second, d.second, o.second))
      (omega (arith, f.third, d.third, o.third)) (omega (arith, f.fourth, d.fourth, o.fourth))
      (omega (arith, g.first, e.first, q.first)) (omega (arith, g.second, e.second, q.second))
      (omega (arith, g.third, e.third, q.third)) (omega (arith, g.fourth, e.fourth, q.fourth));
}

-- ---- what reading gives

pub found-good : (s : List ℕ) (p : Place) {x : ReservePrices} → Found s p.at x → good (eight_prices_in x) (advanced p (p.at + eight_bits)) ≡ got reserve_prices s p
unfolding list fields_from
found-good s p {x} f =
    sym (eight-list (figure price_bits 0 most_price) s p bad good
    ∙ fields-good price_bits most_price 8 0 s p.at p bad _ f.range (omega arith) f.there
    ∙ ap (λ (y : M.Reserves). good y (advanced p (p.at + eight_bits))) (sym f.is))
