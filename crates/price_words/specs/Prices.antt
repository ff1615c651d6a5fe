-- The eight prices of a cell as bits of the message, and what the quick reading of them answers.
use Rattle.std.specs.Prelude.{◌≡◌, List, ℕ, ◌+◌, ◌*◌, ◌/◌, ◌%◌, ◌^◌, ◌≤◌, ◌<◌}
use Rattle.bits.specs.Bits.{field_at, reach}
use Rattle.model.specs.Case as M
use Rattle.row_places.specs.declared.ReservePrices.{ReservePrices}
use Rattle.records.specs.Views.{eight_prices_in}
use Rattle.price_words.specs.declared.Four.{Four}

-- "eight reserve prices 14 each (0..10,000)"
abbrev pub price_bits : ℕ
price_bits = 14

abbrev pub most_price : ℕ
most_price = 10000

-- four prices are a word
abbrev pub four_bits : ℕ
four_bits = 4 * price_bits

abbrev pub eight_bits : ℕ
eight_bits = 2 * four_bits

-- price j of the eight that stand from bit `at` on
abbrev pub price_at : List ℕ → ℕ → ℕ → ℕ
price_at s at j = field_at s (at + j * price_bits) price_bits

abbrev pub eight_at : List ℕ → ℕ → M.Reserves
eight_at s at = record {
  rgu = price_at s at 0;
  rgd = price_at s at 1;
  scr = price_at s at 2;
  nsc = price_at s at 3;
  rru_on = price_at s at 4;
  rru_off = price_at s at 5;
  rrd_on = price_at s at 6;
  rrd_off = price_at s at 7;
}

-- these prices are there, in their ranges, and x has them
pub record Found (s : List ℕ) (at : ℕ) (x : ReservePrices) : Type 0 where
  pub there : at + eight_bits ≤ 8 * reach s
  pub is : eight_prices_in x ≡ eight_at s at
  pub range : (j : ℕ) → j < 8 → price_at s at j ≤ most_price

-- ---- four prices of a word

pub record Fourfold (word : ℕ) (t : Four) : Type 0 where
  pub first : t.a ≡ word / 2 ^ (3 * price_bits) % 2 ^ price_bits
  pub second : t.b ≡ word / 2 ^ (2 * price_bits) % 2 ^ price_bits
  pub third : t.c ≡ word / 2 ^ price_bits % 2 ^ price_bits
  pub fourth : t.d ≡ word / 2 ^ 0 % 2 ^ price_bits

-- they are in their range
pub record Low (word : ℕ) : Type 0 where
  pub first : word / 2 ^ (3 * price_bits) % 2 ^ price_bits ≤ most_price
  pub second : word / 2 ^ (2 * price_bits) % 2 ^ price_bits ≤ most_price
  pub third : word / 2 ^ price_bits % 2 ^ price_bits ≤ most_price
  pub fourth : word / 2 ^ 0 % 2 ^ price_bits ≤ most_price

-- the bits ahead of them are 0
pub record Unborrowed (r : ℕ) : Type 0 where
  pub first : r / 2 ^ four_bits % 2 ≡ 0
  pub second : r / 2 ^ (3 * price_bits) % 2 ≡ 0
  pub third : r / 2 ^ (2 * price_bits) % 2 ≡ 0
  pub fourth : r / 2 ^ price_bits % 2 ≡ 0

-- eight prices in order
abbrev pub eight_in : Four → Four → M.Reserves
eight_in x y = record { rgu = x.a; rgd = x.b; scr = x.c; nsc = x.d; rru_on = y.a; rru_off = y.b; rrd_on = y.c; rrd_off = y.d }
