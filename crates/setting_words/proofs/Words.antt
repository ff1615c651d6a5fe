-- A setting's fields out of three words: which bits of the message they are.
use mathlib.Core.Path.{◌≡◌, refl, ap, ◌∙◌}
use mathlib.Core.List.{List}
use Prim.Native.Nat.{ℕ, zero, suc, ◌+◌, ◌*◌, ◌/◌, ◌^◌, ◌≤◌, ◌<◌}
use native.Mathlib.Omega.{arith}
use lib.Pow.{high}
use Rattle.bits.specs.Bits.{field_at, reach}
use Rattle.bits.proofs.Laws.{split, field_lt}
use Rattle.word_fields.proofs.Words.{field_of}
use Rattle.setting_words.specs.declared.Active.{Active}
use Rattle.setting_words.specs.declared.Three.{Three}
use Rattle.setting_words.specs.Settings.{active_in, three_bits, active_bits, power_at, kw_bits, most_kw, nine_in, Found, Threefold, Low}

-- ---- the bits

-- powers j, j + 1 and j + 2 of the nine behind bit `at`
pub record ThreeAt (s : List ℕ) (at j : ℕ) (t : Three) : Type 0 where
  pub first : t.x ≡ power_at s at j
  pub second : t.y ≡ power_at s at (j + 1)
  pub third : t.z ≡ power_at s at (j + 2)

-- the last three of a word at bit b
pub three-of : (s : List ℕ) (at j b u : ℕ) {word : ℕ} {t : Three} → word ≡ field_at s b (u + three_bits) → Threefold word t → b + u ≡ at + 1 + j * kw_bits → ThreeAt s at j t
three-of s at j b u e h d = record {
  first = field_of s b u kw_bits (2 * kw_bits) (e ∙ wide (omega arith)) h.first ∙ place (omega arith);
  second = field_of s b (u + kw_bits) kw_bits kw_bits (e ∙ wide (omega arith)) h.second ∙ place (omega arith);
  third = field_of s b (u + 2 * kw_bits) kw_bits 0 (e ∙ wide (omega arith)) h.third ∙ place (omega arith);
}
  where
    wide : {v w : ℕ} → v ≡ w → field_at s b v ≡ field_at s b w
    wide d = ap (λ (n : ℕ). field_at s b n) d

    place : {v w : ℕ} → v ≡ w → field_at s v kw_bits ≡ field_at s w kw_bits
    place d = ap (λ (n : ℕ). field_at s n kw_bits) d

-- the first bit of a word
pub bit-of : (s : List ℕ) (at : ℕ) {word : ℕ} → word ≡ field_at s at (1 + three_bits) → word / 2 ^ three_bits ≡ field_at s at 1
bit-of s at e = ap (λ (n : ℕ). n / 2 ^ three_bits) (e ∙ split s at 1 three_bits) ∙ high (field_at s at 1) three_bits (field_lt s (at + 1) three_bits)

-- ---- the nine powers

nine : (P : ℕ → Type 0) → P 0 → P 1 → P 2 → P 3 → P 4 → P 5 → P 6 → P 7 → P 8 → (j : ℕ) → j < 9 → P j
nine P a b c d e f g h i zero l = a
nine P a b c d e f g h i (suc zero) l = b
nine P a b c d e f g h i (suc (suc zero)) l = c
nine P a b c d e f g h i (suc (suc (suc zero))) l = d
nine P a b c d e f g h i (suc (suc (suc (suc zero)))) l = e
nine P a b c d e f g h i (suc (suc (suc (suc (suc zero))))) l = f
nine P a b c d e f g h i (suc (suc (suc (suc (suc (suc zero)))))) l = g
nine P a b c d e f g h i (suc (suc (suc (suc (suc (suc (suc zero))))))) l = h
nine P a b c d e f g h i (suc (suc (suc (suc (suc (suc (suc (suc zero)))))))) l = i
nine P a b c d e f g h i (suc (suc (suc (suc (suc (suc (suc (suc (suc j))))))))) l = absurd (omega arith)

pub found : (s : List ℕ) (at : ℕ) {on u v w : ℕ} {a b c : Three} {x : Active} → at + active_bits ≤ 8 * reach s → active_in x ≡ nine_in on a b c → on ≡ field_at s at 1
    → ThreeAt s at 0 a → ThreeAt s at 3 b → ThreeAt s at 6 c → Threefold u a → Threefold v b → Threefold w c → Low u → Low v → Low w → Found s at x
found s at there whole first f g h d e k o q r = record {
  there = there;
  is = whole ∙ rw (first, f.first, f.second, f.third, g.first, g.second, g.third, h.first, h.second, h.third) refl;
  range = nine (λ j. power_at s at j ≤ most_kw)
      (omega (arith, f.first, d.first, o.first)) (omega (arith, f.second, d.second, o.second)) (omega (arith, f.third, d.third, o.third))
      (omega (arith, g.first, e.first, q.first)) (omega (arith, g.second, e.second, q.second)) (omega (arith, g.third, e.third, q.third))
      (omega (arith, h.first, k.first, r.first)) (omega (arith, h.second, k.second, r.second)) (omega (arith, h.third, k.third, r.third));
}
