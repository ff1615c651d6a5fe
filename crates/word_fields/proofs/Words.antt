-- A field of a word of the message is the field at its bit; and what reading gives where fields are there and in their ranges.
use mathlib.Core.Path.{◌≡◌, refl, sym, ap, ◌∙◌}
use mathlib.Core.List.{List, [], ◌∷◌}
use Prim.Native.Nat.{ℕ, zero, suc, ◌+◌, ◌-◌, ◌*◌, ◌/◌, ◌%◌, ◌^◌, ◌≤◌, ◌<◌}
use native.Mathlib.Omega.{arith}
use native.Mathlib.Decide.{dec_le}
use native.Mathlib.Nat.{mod-lt, mod-eq_of_lt, mod-eq-sub-mod, suc-mul}
use borrow.Author.Tests.{le-leb}
use lib.Dec.{leb}
use lib.IntN.{ℤ, nat_abs}
use lib.Pow.{pow_pos, pow_mono}
use Rattle.bits.specs.Bits.{field_at, reach, read_field}
use Rattle.bits.specs.Pick.{pick}
use Rattle.bits.specs.Twos.{from_twos}
use Rattle.bits.proofs.Laws.{part, read_as, field_lt, one_shl}
use Rattle.layouts.specs.declared.Fault.{Fault}
use Rattle.layouts.specs.declared.Fault.TheVariants.{OutOfRange}
use Rattle.layouts.specs.declared.Place.{Place}
use Rattle.layouts.specs.Layout.{nat, int, repeated, advanced, figure}
use Rattle.ranges.specs.Kept.{less}
use Rattle.fields.specs.Got.{Got, good, bad, got, nat-natural, goes_on}
use Rattle.fields.proofs.Steps.{raw-on, plus-in, minus-in}

-- ---- the bits

-- the last w bits of a number, as the machine leaves them
module _ (v w : ℕ) (h : w ≤ 32) where
  pub last_some : 0 < 1 * 2 ^ w % 2 ^ 64
  last_some = rw (one_shl w (omega arith)) (pow_pos w)

  pub last-is : v % (1 * 2 ^ w % 2 ^ 64) ≡ v % 2 ^ w
  last-is = ap (λ (n : ℕ). v % n) (one_shl w (omega arith))

  pub last-lt : v % (1 * 2 ^ w % 2 ^ 64) < 2 ^ 32
  last-lt = omega (arith, last-is, mod-lt v (pow_pos w), pow_mono h)

-- a field of w bits of a word at bit b, with u bits of it ahead and t behind
pub field_of : (s : List ℕ) (b u w t : ℕ) {word x : ℕ} → word ≡ field_at s b (u + w + t) → x ≡ word / 2 ^ t % 2 ^ w → x ≡ field_at s (b + u) w
field_of s b u w t e h = h ∙ ap (λ (n : ℕ). n / 2 ^ t % 2 ^ w) e ∙ part s b u w t

-- ---- one field

-- in its range
pub figure-good : (w high : ℕ) (s : List ℕ) (p : Place) → field_at s p.at w ≤ high → p.at + w ≤ 8 * reach s
    → got (figure w 0 high) s p ≡ good (field_at s p.at w) (advanced p (p.at + w))
unfolding nat
figure-good w high s p h i =
    sym (raw-on (read_field s p.at w) p bad (λ v after. pick (leb 0 v) (pick (leb v high) (good v after) (bad (OutOfRange p.at))) (bad (OutOfRange p.at))) refl
    (sym (read_as s p.at w refl i))
    (rw (le-leb 0 (field_at s p.at w) (omega arith), le-leb (field_at s p.at w) high h) refl))

-- one in two's complement, kept from 0: the figure and `most`. Half is the weight of its highest bit
module _ (w half most : ℕ) (full : 2 * half ≡ 2 ^ w) (fits : most < half) (v : ℕ) (small : v < 2 ^ w) {x : ℕ} (e : x ≡ (v + most) % 2 ^ w) (h : x ≤ 2 * most) where
  -- a figure of 0 or more does not reach the highest bit, one below 0 leaves it
  above-0 : v < half → x ≡ most + v
  above-0 l = omega (arith, e, mod-eq_of_lt {n = v + most} {m = 2 ^ w} (omega arith))

  below-0 : half ≤ v → (x ≡ most - (2 * half - v)) × (2 * half - v ≤ most)
  below-0 l = elim (dec_le (2 ^ w) (v + most)) [
    | yes g ↦ let k = mod-eq-sub-mod {n = v + most} {m = 2 ^ w} g in let o = mod-eq_of_lt {n = v + most - 2 ^ w} {m = 2 ^ w} (omega arith) in (omega (arith, e, k, o), omega arith)
    | no g ↦ let k = mod-eq_of_lt {n = v + most} {m = 2 ^ w} (omega arith) in absurd (omega (arith, e, k))
  ]

  offset-in : (q : Place) (b : Got ℤ) → good (less most x) q ≡ pick (leb (nat_abs (from_twos w v)) most) (good (from_twos w v) q) b
  offset-in q b = elim (dec_le half v) [
    | yes l ↦ minus-in w v most full q b l small (below-0 l).1 (ap (λ (n : ℕ). good (less most n) q) (below-0 l).0)
    | no l ↦ plus-in w v most full q b (omega arith) (omega (arith, above-0 (omega arith))) (ap (λ (n : ℕ). good (less most n) q) (above-0 (omega arith)))
  ]

pub offset-good : (w half most : ℕ) → 2 * half ≡ 2 ^ w → most < half → (s : List ℕ) (p : Place) {x : ℕ} → x ≡ (field_at s p.at w + most) % 2 ^ w → x ≤ 2 * most → p.at + w ≤ 8 * reach s
    → got (int w most) s p ≡ good (less most x) (advanced p (p.at + w))
unfolding int
offset-good w half most full fits s p e h i =
    sym (raw-on (read_field s p.at w) p bad (λ v after. pick (leb (nat_abs (from_twos w v)) most) (good (from_twos w v) after) (bad (OutOfRange p.at))) refl
    (sym (read_as s p.at w refl i))
    (offset-in w half most full fits (field_at s p.at w) (field_lt s p.at w) e h (advanced p (p.at + w)) (bad (OutOfRange p.at))))

-- ---- one field of a word

-- of a word of n bits at p: it has u of them ahead of it and t behind, and stands at q
module _ (s : List ℕ) (p : Place) (u w t : ℕ) (q : Place) (here : q.at ≡ p.at + u) (there : p.at + (u + w + t) ≤ 8 * reach s) {word : ℕ} (e : word ≡ field_at s p.at (u + w + t)) where
  stands : word / 2 ^ t % 2 ^ w ≡ field_at s q.at w
  stands = field_of s p.at u w t e refl ∙ ap (λ (n : ℕ). field_at s n w) (sym here)

  pub word-figure : (high : ℕ) {x : ℕ} → x ≡ word / 2 ^ t % 2 ^ w → x ≤ high → got (figure w 0 high) s q ≡ good x (advanced q (q.at + w))
  word-figure high h l = let k = h ∙ stands in figure-good w high s q (omega (arith, k, l)) (omega arith) ∙ ap (λ (v : ℕ). good v (advanced q (q.at + w))) (sym k)

  pub word-offset : (half most : ℕ) → 2 * half ≡ 2 ^ w → most < half → {x : ℕ} → x ≡ (word / 2 ^ t % 2 ^ w + most) % 2 ^ w → x ≤ 2 * most
      → got (int w most) s q ≡ good (less most x) (advanced q (q.at + w))
  word-offset half most full fits h l = offset-good w half most full fits s q (h ∙ ap (λ (n : ℕ). (n + most) % 2 ^ w) stands) l (omega arith)

-- ---- fields of one width in a row

-- the n from field j on
unfoldable pub fields_from : List ℕ → ℕ → ℕ → ℕ → ℕ → List ℕ
fields_from s at w j zero = []
fields_from s at w j (suc n) = field_at s (at + j * w) w ∷ fields_from s at w (suc j) n

pub fields-good : {X : Type 0} (w high n j : ℕ) (s : List ℕ) (at : ℕ) (p : Place) (b : Fault → X) (next : List ℕ → Place → X)
    → ((k : ℕ) → k < j + n → field_at s (at + k * w) w ≤ high) → p.at ≡ at + j * w → p.at + n * w ≤ 8 * reach s
    → repeated (figure w 0 high) s n p b next ≡ next (fields_from s at w j n) (advanced p (p.at + n * w))
unfolding repeated fields_from
fields-good w high zero j s at p b next h e i = ap (λ (k : ℕ). next [] (advanced p k)) (omega arith)
fields-good w high (suc n) j s at p b next h e i =
    let q = advanced p (p.at + w) in
    let here : field_at s p.at w ≡ field_at s (at + j * w) w = ap (λ (k : ℕ). field_at s k w) e in
    let more : suc n * w ≡ n * w + w = suc-mul n w in
    let past : suc j * w ≡ j * w + w = suc-mul j w in
    goes_on (nat-natural _) s p b _ (figure-good w high s p (omega (arith, here, h j (omega arith))) (omega arith))
    ∙ ap (λ (v : ℕ). repeated (figure w 0 high) s n q b (λ r z. next (v ∷ r) z)) here
    ∙ fields-good w high n (suc j) s at q b (λ r z. next (field_at s (at + j * w) w ∷ r) z) (λ k l. h k (omega arith)) (omega arith) (omega arith)
    ∙ ap (λ (k : ℕ). next (field_at s (at + j * w) w ∷ fields_from s at w (suc j) n) (advanced p k)) (omega arith)
