-- The fields of a word taken from the greatest fields, all at once. Where one is above its range the difference borrows from the bit ahead of it, and where none
-- is it does not: the bit ahead of a field is then that of the word, since the greatest fields ahead are even.
use mathlib.Core.Path.{◌≡◌, sym, ap, ◌∙◌}
use Prim.Native.Nat.{ℕ, ◌+◌, ◌-◌, ◌*◌, ◌/◌, ◌%◌, ◌^◌, ◌≤◌, ◌<◌}
use native.Mathlib.Omega.{arith}
use native.Mathlib.Decide.{dec_le}
use native.Mathlib.Nat.{add-mul, one-mul, mul-le-mul_right, mod-lt}
use lib.Bits.{bit_and, bit_or, bit_xor, and_le_l, and_le_r, or_add_and, xor_add_and, and_mask, and_shr, or_shr, xor_shr, and_mod, or_mod, xor_mod}
use lib.Pow.{pow_pos, shr_le, split, high}

-- ---- one bit

module _ (a b k : ℕ) where
  -- two that differ in no bit have this bit in common
  same_bit : bit_xor a b / 2 ^ k % 2 ≡ 0 → a / 2 ^ k % 2 ≡ b / 2 ^ k % 2
  same_bit e =
      let x = a / 2 ^ k % 2 in
      let y = b / 2 ^ k % 2 in
      let z : bit_xor x y ≡ 0 = sym (ap (λ (n : ℕ). n % 2) (xor_shr a b k) ∙ xor_mod (a / 2 ^ k) (b / 2 ^ k) 1) ∙ e in
      omega (arith, z, xor_add_and x y, and_le_l x y, and_le_r x y)

  pub either-bit : bit_or a b / 2 ^ k % 2 ≡ 0 → (a / 2 ^ k % 2 ≡ 0) × (b / 2 ^ k % 2 ≡ 0)
  either-bit e =
      let x = a / 2 ^ k % 2 in
      let y = b / 2 ^ k % 2 in
      let z : bit_or x y ≡ 0 = sym (ap (λ (n : ℕ). n % 2) (or_shr a b k) ∙ or_mod (a / 2 ^ k) (b / 2 ^ k) 1) ∙ e in
      (omega (arith, z, or_add_and x y, and_le_l x y, and_le_r x y), omega (arith, z, or_add_and x y, and_le_l x y, and_le_r x y))

  -- a bit that a mask asks for
  pub masked-bit : bit_and a b ≡ 0 → b / 2 ^ k % 2 ≡ 1 → a / 2 ^ k % 2 ≡ 0
  masked-bit e one =
      let x = a / 2 ^ k % 2 in
      let z : bit_and a b / 2 ^ k % 2 ≡ bit_and x (b / 2 ^ k % 2) = ap (λ (n : ℕ). n % 2) (and_shr a b k) ∙ and_mod (a / 2 ^ k) (b / 2 ^ k) 1 in
      let m : bit_and x (b / 2 ^ k % 2) ≡ x % 2 = ap (bit_and x) one ∙ and_mask x 1 in
      omega (arith, z, m, shr_le (bit_and a b) k)

-- ---- the last k bits

-- taken from fewer and an even number ahead of them, they borrow one
borrowed : (k c b v : ℕ) → b < v % 2 ^ k → v ≤ 2 * c * 2 ^ k + b → ((2 * c * 2 ^ k + b - v) / 2 ^ k ≡ 2 * c - (v / 2 ^ k + 1)) × (v / 2 ^ k < 2 * c)
borrowed k c b v short fits =
    let n = 2 ^ k in
    let h = v / n in
    let l = v % n in
    let d = 2 * c - (h + 1) in
    let whole : h * n + l ≡ v = split v k in
    let small : l < n = mod-lt v (pow_pos k) in
    let less : h < 2 * c = elim (dec_le (2 * c) h) [
      | yes m ↦ let g : 2 * c * n ≤ h * n = mul-le-mul_right n m in absurd (omega arith)
      | no m ↦ omega arith
    ] in
    let sum : 2 * c ≡ d + (h + 1) = omega arith in
    let parts : 2 * c * n ≡ d * n + (h * n + n) = ap (λ (x : ℕ). x * n) sum ∙ simp (add-mul, one-mul) in
    let rest : 2 * c * n + b - v ≡ d * n + (n + b - l) = omega arith in
    (ap (λ (x : ℕ). x / n) rest ∙ high d k (omega arith), less)

-- so bit k changes, but where they are at most b
pub none_above : (k c b v : ℕ) → v ≤ 2 * c * 2 ^ k + b → bit_xor (2 * c * 2 ^ k + b - v) v / 2 ^ k % 2 ≡ 0 → v % 2 ^ k ≤ b
none_above k c b v fits e = elim (dec_le (v % 2 ^ k) b) [
  | yes m ↦ m
  | no m ↦
      let g = borrowed k c b v (omega arith) fits in
      let bit = same_bit (2 * c * 2 ^ k + b - v) v k e in
      let odd = ap (λ (x : ℕ). x % 2) g.0 in
      absurd (omega (arith, bit, odd, g.1))
]
