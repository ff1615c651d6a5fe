-- The fewest digits that the kit's `io` counts and spells are the definition's.
use Rattle.std.specs.Prelude.{◌≡◌, refl, List, [], ◌∷◌, ◌++◌, ℕ, zero, suc, ◌+◌, ◌-◌, ◌/◌, ◌%◌, ◌^◌, ◌≤◌, ◌<◌}
use Rattle.std.proofs.Common.{ap, ◌∙◌, pow-suc, mod-eq_of_lt, add-zero, add-suc, arith, lt-ltb, le-ltb}
use Rattle.std.proofs.Math.Decide.{dec_le, dec_lt}
use Rattle.io.specs.Digits.{last_digits, hex_digit_ascii, IsDigitCount}
use Rattle.wording.specs.Decimal.{digit, decimal_within, decimal}

glyph-is : (d : ℕ) → d < 10 → hex_digit_ascii d ≡ digit d
glyph-is d h = rw (lt-ltb d 10 h) refl

-- the fewest digits that hold a number are its digits in decimal
spelt : (r k n : ℕ) → suc r ≤ k → n < 10 ^ suc r → (0 < r → 10 ^ r ≤ n) → last_digits 10 (suc r) n ≡ decimal_within k n
unfolding decimal_within
spelt zero zero n h f g = absurd (omega arith)
spelt (suc r) zero n h f g = absurd (omega arith)
spelt zero (suc k) n h f g =
    let l : n < 10 = f in
    rw (lt-ltb n 10 l) (ap (λ (d : ℕ). d ∷ []) (ap hex_digit_ascii (mod-eq_of_lt l) ∙ glyph-is n l))
spelt (suc r) (suc k) n h f g =
    let p = pow-suc 10 (suc r) in
    let q = pow-suc 10 r in
    let one : 1 ≤ 10 ^ r = pow-one r in
    let big : 10 ^ suc r ≤ n = g (omega arith) in
    let few : 10 ≤ n = omega arith in
    let below : n / 10 < 10 ^ suc r = omega arith in
    let least : 10 ^ r ≤ n / 10 = omega arith in
    rw (le-ltb n 10 few) (ap (λ (l : List ℕ). l ++ (hex_digit_ascii (n % 10) ∷ [])) (spelt r k (n / 10) (omega arith) below (λ _. least))
    ∙ ap (λ (d : ℕ). decimal_within k (n / 10) ++ (d ∷ [])) (glyph-is (n % 10) (omega arith)))
  where
    pow-one : (r : ℕ) → 1 ≤ 10 ^ r
    pow-one zero = omega arith
    pow-one (suc r) = omega (arith, pow-suc 10 r, pow-one r)

few-digits : (r : ℕ) → r < 10 ^ r
few-digits zero = omega arith
few-digits (suc r) = omega (arith, pow-suc 10 r, few-digits r)

pub spells : (r n : ℕ) → IsDigitCount 10 1 n r → last_digits 10 r n ≡ decimal n
unfolding decimal
spells zero n f = absurd (omega arith)
spells (suc r) n f = spelt r (suc n) n (omega (arith, few-digits r, deep)) f.1 least
  where
    least : 0 < r → 10 ^ r ≤ n
    least h = let e : suc r - 1 ≡ r = omega arith in rw e at (f.2 (omega arith))

    deep : r ≤ n
    deep = elim (dec_lt 0 r) [
      | yes h ↦ omega (arith, least h, few-digits r)
      | no h ↦ omega arith
    ]

ten-mono : (i k : ℕ) → 10 ^ i ≤ 10 ^ (i + k)
ten-mono i zero = rw (add-zero i) (omega arith)
ten-mono i (suc k) = rw (add-suc i k) (omega (arith, pow-suc 10 (i + k), ten-mono i k))

-- 64 bits hold no number of more than 20 digits
pub twenty : (k n : ℕ) → n < 2 ^ 64 → IsDigitCount 10 1 n k → k ≤ 20
twenty k n h f = elim (dec_le k 20) [
  | yes l ↦ l
  | no l ↦
      let e : 20 + (k - 21) ≡ k - 1 = omega arith in
      let g : 10 ^ 20 ≤ 10 ^ (k - 1) = rw e at (ten-mono 20 (k - 21)) in
      absurd (omega (arith, f.2 (omega arith), g))
]
