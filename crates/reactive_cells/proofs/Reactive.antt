-- The steps of reading what a cell has of reactive power.
use mathlib.Core.Path.{◌≡◌, refl, ap, sym, ◌∙◌}
use mathlib.Core.Bool.{Bool}
use mathlib.Core.List.{List}
use Prim.Native.Nat.{ℕ, ◌+◌, ◌*◌, ◌/◌, ◌%◌, ◌^◌, ◌≤◌}
use native.Mathlib.Omega.{arith}
use borrow.Author.Tests.{le-leb}
use lib.Dec.{leb}
use lib.Signed.{le_z}
use Rattle.bits.specs.Bits.{field_at, reach}
use Rattle.layouts.specs.declared.Place.{Place}
use Rattle.layouts.specs.Layout.{int, ◌then◌, ◌▸◌, such, figure, noted, advanced}
use Rattle.layouts.specs.Since.{has, since}
use Rattle.model.specs.ByEdition.{reactive_limits, reactive_prices, reactive_cell, no_reactive_cell}
use Rattle.ranges.specs.Kept.{less, less-order}
use Rattle.kilovars.specs.Reactive.{kvar_offset}
use Rattle.fields.specs.Got.{good, got, Natural, nat-natural, int-natural, then-natural, such-natural, held-natural}
use Rattle.fields.specs.Since.{present-natural}
use Rattle.fields.proofs.Steps.{noted-none}
use Rattle.fields.proofs.Chains.{then-on, such-on, held_on}
use Rattle.word_fields.proofs.Words.{word-figure, word-offset}
use Rattle.reactive_cells.specs.Reactive.{limits_bits, prices_bits, reactive_bits, ReactiveFits}

-- ---- qmin and qmax

signed : Natural (int 18 100000)
signed = int-natural 18 100000

both : Natural (int 18 100000 then (λ low. such (λ high. le_z low high) (int 18 100000)))
both = then-natural signed (λ low. such-natural (λ high. le_z low high) signed)

pub limits-natural : Natural reactive_limits
unfolding reactive_limits
limits-natural = held-natural _ _ both

-- "A qmin above qmax is a contradiction at qmax"
pub limits-done : (s : List ℕ) (p : Place) (low high : ℕ) {p₁ p₂ q : Place} → good (less kvar_offset low) p₁ ≡ got (int 18 100000) s p → good (less kvar_offset high) p₂ ≡ got (int 18 100000) s p₁
    → q ≡ noted (leb low high) p₁.at p₂ → good (record { qmin = less kvar_offset low; qmax = less kvar_offset high }) q ≡ got reactive_limits s p
unfolding reactive_limits
limits-done s p low high {p₁} {p₂} e h n = held_on both _ _ s p (then-on signed _ s p (such-natural _ signed) e
    (such-on signed _ s p₁ h (n ∙ ap (λ (t : Bool). noted t p₁.at p₂) (sym (less-order kvar_offset low high)))))

-- ---- the prices of the two reserves

two : Natural (figure 14 0 10000 ▸ figure 14 0 10000)
two = then-natural (nat-natural _) (λ a. nat-natural _)

pub prices-natural : Natural reactive_prices
unfolding reactive_prices
prices-natural = held-natural _ _ two

pub prices-done : (s : List ℕ) (p : Place) {up down : ℕ} {p₁ q : Place} → good up p₁ ≡ got (figure 14 0 10000) s p → good down q ≡ got (figure 14 0 10000) s p₁
    → good (record { qru = up; qrd = down }) q ≡ got reactive_prices s p
unfolding reactive_prices
prices-done s p e h = held_on two _ _ s p (then-on (nat-natural _) _ s p (nat-natural _) e h)

-- ---- the whole, by edition

pub reactive-natural : (e : ℕ) → Natural (since e 2 no_reactive_cell reactive_cell)
reactive-natural e = present-natural (has 2 e) no_reactive_cell (then-natural limits-natural (λ a. prices-natural))

-- ---- by words

module _ (s : List ℕ) (p : Place) (there : p.at + reactive_bits ≤ 8 * reach s) where
  abbrev at_max : Place
  at_max = advanced p (p.at + 18)

  abbrev at_prices : Place
  at_prices = advanced p (p.at + 18 + 18)

  abbrev at_down : Place
  at_down = advanced p (p.at + 18 + 18 + 14)

  limits-found : {word low high : ℕ} → word ≡ field_at s p.at limits_bits → low ≡ (word / 2 ^ 18 % 2 ^ 18 + kvar_offset) % 2 ^ 18 → high ≡ (word / 2 ^ 0 % 2 ^ 18 + kvar_offset) % 2 ^ 18
      → low ≤ high → high ≤ 2 * kvar_offset → good (record { qmin = less kvar_offset low; qmax = less kvar_offset high }) at_prices ≡ got reactive_limits s p
  limits-found {word} {low} {high} e a b l k =
      let first = word-offset s p 0 18 18 p (omega arith) (omega (arith, there)) e 131072 kvar_offset refl (omega arith) a (omega arith) in
      let second = word-offset s p 18 18 0 at_max refl (omega (arith, there)) e 131072 kvar_offset refl (omega arith) b k in
      limits-done s p low high (sym first) (sym second) (noted-none at_max.at at_prices (le-leb low high l))

  prices-found : {word up down : ℕ} → word ≡ field_at s (p.at + limits_bits) prices_bits → up ≡ word / 2 ^ 14 % 2 ^ 14 → down ≡ word / 2 ^ 0 % 2 ^ 14 → up ≤ 10000 → down ≤ 10000
      → good (record { qru = up; qrd = down }) (advanced p (p.at + 18 + 18 + 14 + 14)) ≡ got reactive_prices s at_prices
  prices-found {word} e a b l k =
      let same : p.at + limits_bits ≡ at_prices.at = omega arith in
      let here : word ≡ field_at s at_prices.at prices_bits = e ∙ ap (λ (n : ℕ). field_at s n prices_bits) same in
      let first = word-figure s at_prices 0 14 14 at_prices (omega arith) (omega (arith, there)) here 10000 a l in
      let second = word-figure s at_prices 14 14 0 at_down refl (omega (arith, there)) here 10000 b k in
      prices-done s at_prices (sym first) (sym second)

  pub reactive-found : {word other low high up down : ℕ} → word ≡ field_at s p.at limits_bits → other ≡ field_at s (p.at + limits_bits) prices_bits
      → low ≡ (word / 2 ^ 18 % 2 ^ 18 + kvar_offset) % 2 ^ 18 → high ≡ (word / 2 ^ 0 % 2 ^ 18 + kvar_offset) % 2 ^ 18 → up ≡ other / 2 ^ 14 % 2 ^ 14 → down ≡ other / 2 ^ 0 % 2 ^ 14
      → ReactiveFits low high up down
      → good (record { qmin = less kvar_offset low; qmax = less kvar_offset high }, record { qru = up; qrd = down }) (advanced p (p.at + reactive_bits)) ≡ got reactive_cell s p
  reactive-found {low = low} {high = high} {up = up} {down = down} e d a b c g f =
      let end : p.at + reactive_bits ≡ p.at + 18 + 18 + 14 + 14 = omega arith in
      ap (λ (n : ℕ). good (record { qmin = less kvar_offset low; qmax = less kvar_offset high }, record { qru = up; qrd = down }) (advanced p n)) end
      ∙ then-on limits-natural _ s p prices-natural (limits-found e a b f.qmin-fits f.qmax-fits) (prices-found d c g f.qru-fits f.qrd-fits)
