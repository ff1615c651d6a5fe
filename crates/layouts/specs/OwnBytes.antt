-- A message that passes reading is what its content is written as, byte by byte.
use Rattle.std.specs.Prelude.{◌≡◌, refl, Bool, true, false, List, [], ◌∷◌, ℕ, zero, suc, ◌+◌, ◌-◌, ◌*◌, ◌/◌, ◌%◌, ◌≤◌, ◌<◌, ltb, eqb, length, get_or}
use Rattle.std.proofs.Common.{sym, ◌∙◌, arith, ltb-false, eqb-true}
use Rattle.std.proofs.Math.Decide.{dec_le}
use Rattle.std.proofs.Math.ListN.{get_or-eq_default}
use Rattle.numbers.specs.Sum.{All}
use Rattle.numbers.specs.Every.{all-each}
use Rattle.bits.specs.Bits.{bit_at, reach}
use Rattle.bits.specs.Pick.{pick}
use Rattle.bits.proofs.Laws.{bit-lt}
use Rattle.layouts.specs.declared.Clash.{Clash}
use Rattle.layouts.specs.declared.Clash.TheVariants.{Clear, At}
use Rattle.layouts.specs.declared.Place.{Place}
use Rattle.layouts.specs.Layout.{Layout, Whole, passes, fails, settle, begin, read_whole, first_one, tail_fault, bytes_for, or_else, bytes}
use Rattle.layouts.specs.Own.{Own, Reads, stops, goes, Wrote}
use Rattle.layouts.specs.Trip.{bit-bytes, length-bytes, bit_past}

-- eight bits make a byte
step : (x y : ℕ) → x / 2 ≡ y / 2 → x % 2 ≡ y % 2 → x ≡ y
step x y h k = omega arith

half64 : (x : ℕ) → x / 64 / 2 ≡ x / 128
half64 x = omega arith

half32 : (x : ℕ) → x / 32 / 2 ≡ x / 64
half32 x = omega arith

half16 : (x : ℕ) → x / 16 / 2 ≡ x / 32
half16 x = omega arith

half8 : (x : ℕ) → x / 8 / 2 ≡ x / 16
half8 x = omega arith

half4 : (x : ℕ) → x / 4 / 2 ≡ x / 8
half4 x = omega arith

half2 : (x : ℕ) → x / 2 / 2 ≡ x / 4
half2 x = omega arith

top : (x y : ℕ) → x < 256 → y < 256 → x / 128 % 2 ≡ y / 128 % 2 → x / 128 ≡ y / 128
top x y h k e = omega arith

ones : (x : ℕ) → x / 1 ≡ x
ones x = omega arith

same_byte : (x y : ℕ) (xs ys : List ℕ) → x < 256 → y < 256 → ((i : ℕ) → i < 8 → bit_at (x ∷ xs) i ≡ bit_at (y ∷ ys) i) → x ≡ y
unfolding bit_at
same_byte x y xs ys h k e =
    let t7 : x / 128 ≡ y / 128 = top x y h k (e 0 (omega arith)) in
    let t6 : x / 64 ≡ y / 64 = step (x / 64) (y / 64) (half64 x ∙ t7 ∙ sym (half64 y)) (e 1 (omega arith)) in
    let t5 : x / 32 ≡ y / 32 = step (x / 32) (y / 32) (half32 x ∙ t6 ∙ sym (half32 y)) (e 2 (omega arith)) in
    let t4 : x / 16 ≡ y / 16 = step (x / 16) (y / 16) (half16 x ∙ t5 ∙ sym (half16 y)) (e 3 (omega arith)) in
    let t3 : x / 8 ≡ y / 8 = step (x / 8) (y / 8) (half8 x ∙ t4 ∙ sym (half8 y)) (e 4 (omega arith)) in
    let t2 : x / 4 ≡ y / 4 = step (x / 4) (y / 4) (half4 x ∙ t3 ∙ sym (half4 y)) (e 5 (omega arith)) in
    let t1 : x / 2 ≡ y / 2 = step (x / 2) (y / 2) (half2 x ∙ t2 ∙ sym (half2 y)) (e 6 (omega arith)) in
    step x y t1 (let u : x / 1 % 2 ≡ y / 1 % 2 = e 7 (omega arith) in rw (ones x, ones y) at u)

same_bytes : (xs ys : List ℕ) → All (λ x. x < 256) xs → All (λ x. x < 256) ys → length xs ≡ length ys → ((i : ℕ) → i < 8 * length xs → bit_at xs i ≡ bit_at ys i) → xs ≡ ys
same_bytes [] [] h k l e = refl
same_bytes [] (y ∷ ys) h k l e = absurd (omega arith)
same_bytes (x ∷ xs) [] h k l e = absurd (omega arith)
same_bytes (x ∷ xs) (y ∷ ys) h k l e =
    let u : x ≡ y = same_byte x y xs ys h.0 k.0 (λ i m. e i (omega arith)) in
    let v : xs ≡ ys = same_bytes xs ys h.1 k.1 (omega arith) (λ i m. sym (bit_past x xs i) ∙ e (suc (suc (suc (suc (suc (suc (suc (suc i)))))))) (omega arith) ∙ bit_past y ys i) in
    rw (u, v) refl

bytes_small : (bs : List ℕ) → All (λ b. b < 2) bs → All (λ x. x < 256) (bytes bs)
unfolding bytes
bytes_small [] h = tt
bytes_small (a ∷ []) h = (omega arith, tt)
bytes_small (a ∷ b ∷ []) h = (omega arith, tt)
bytes_small (a ∷ b ∷ c ∷ []) h = (omega arith, tt)
bytes_small (a ∷ b ∷ c ∷ d ∷ []) h = (omega arith, tt)
bytes_small (a ∷ b ∷ c ∷ d ∷ e ∷ []) h = (omega arith, tt)
bytes_small (a ∷ b ∷ c ∷ d ∷ e ∷ f ∷ []) h = (omega arith, tt)
bytes_small (a ∷ b ∷ c ∷ d ∷ e ∷ f ∷ g ∷ []) h = (omega arith, tt)
bytes_small (a ∷ b ∷ c ∷ d ∷ e ∷ f ∷ g ∷ i ∷ r) h = (omega arith, bytes_small r h.1.1.1.1.1.1.1.1)

-- no bit is 1 where none was found
clear-bits : (s : List ℕ) (at n : ℕ) → first_one s at n ≡ Clear → (k : ℕ) → at ≤ k → k < at + n → bit_at s k ≡ 0
unfolding first_one
clear-bits s at zero e k h l = absurd (omega arith)
clear-bits s at (suc n) e k h l = go (eqb (bit_at s at) 0) refl e (λ t m. clear-bits s (suc at) n t k m (omega arith))
  where
    go : (b : Bool) → eqb (bit_at s at) 0 ≡ b → pick b (first_one s (suc at) n) (At at) ≡ Clear → (first_one s (suc at) n ≡ Clear → suc at ≤ k → bit_at s k ≡ 0) → bit_at s k ≡ 0
    go true t e ih = elim (dec_le k at) [
      | yes m ↦ let q : k ≡ at = omega arith in rw q (eqb-true (bit_at s at) 0 t)
      | no m ↦ ih e (omega arith)
    ]
    go false t e ih = absurd (let z : ◌≡◌ {A = ℕ} 0 1 = cc in omega arith)

-- what no tail fault says: the fill bits are 0 and no byte is left
record Full (s : List ℕ) (at : ℕ) : Type 0 where
  fill : (k : ℕ) → at ≤ k → k < 8 * bytes_for at → bit_at s k ≡ 0
  last : length s ≤ bytes_for at

full : (s : List ℕ) (at : ℕ) → tail_fault s at ≡ Clear → Full s at
unfolding tail_fault
full s at e = go (first_one s at (8 * bytes_for at - at)) refl e
  where
    surplus : (b : Bool) → ltb (bytes_for at) (length s) ≡ b → pick b (At (8 * bytes_for at)) Clear ≡ Clear → length s ≤ bytes_for at
    surplus true t e = absurd (let z : ◌≡◌ {A = ℕ} 0 1 = cc in omega arith)
    surplus false t e = ltb-false (bytes_for at) (length s) t

    go : (c : Clash) → first_one s at (8 * bytes_for at - at) ≡ c → or_else c (pick (ltb (bytes_for at) (length s)) (At (8 * bytes_for at)) Clear) ≡ Clear → Full s at
    go Clear t e = record { fill = λ k h l. clear-bits s at (8 * bytes_for at - at) t k h (omega arith); last = surplus (ltb (bytes_for at) (length s)) refl e }
    go (At b) t e = absurd (let z : ◌≡◌ {A = ℕ} 0 1 = cc in omega arith)

own_bits : (s bs : List ℕ) (q : Place) → All (λ x. x < 256) s → Wrote s 0 bs q → Full s q.at → bytes bs ≡ s
unfolding reach
own_bits s bs q h w f =
    let n : q.at ≡ length bs = omega (arith, w.ends) in
    let r = w.has.room in
    let m = length-bytes bs in
    let ok : All (λ b. b < 2) bs = all-each (λ b. b < 2) 0 bs (λ k l. let t : 0 + k ≡ k = omega arith in
    let e : bit_at s k ≡ get_or bs k 0 = rw t at (w.has.bits k l) in let u = bit-lt s k in omega arith) in
    let l = f.last in
    same_bytes (bytes bs) s (bytes_small bs ok) h (omega arith) (λ i j. bit-bytes bs ok i ∙ elim (dec_le (suc i) (length bs)) [
      | yes k ↦ sym (let t : 0 + i ≡ i = omega arith in rw t at (w.has.bits i k))
      | no k ↦ get_or-eq_default bs 0 (omega arith) ∙ sym (f.fill i (omega arith) (omega arith))
    ])

-- the law: a message that passes reading is its content's own bytes
pub whole-own : {A : Type 0} (l : Layout A) (P : A → Type 0) → Own l P → (s : List ℕ) → All (λ x. x < 256) s → (a : A) → read_whole l s ≡ passes a → bytes (l.write a) ≡ s
unfolding read_whole settle
whole-own {A} l P u s small a h = go (u.own s begin (omega arith))
  where
    settled : (x : A) (q : Place) (f c : Clash) → Wrote s 0 (l.write x) q → tail_fault s q.at ≡ f → settle x f c ≡ passes a → bytes (l.write a) ≡ s
    settled x q (At b) c w t e = absurd (let z : ◌≡◌ {A = ℕ} 0 1 = cc in omega arith)
    settled x q Clear (At b) w t e = absurd (let z : ◌≡◌ {A = ℕ} 0 1 = cc in omega arith)
    settled x q Clear Clear w t e = let k : x ≡ a = cc in rw (sym k) (own_bits s (l.write x) q small w (full s q.at t))

    go : Reads l P s begin → bytes (l.write a) ≡ s
    go (stops f e) = absurd (let t = sym (e (Whole A) fails (λ a p. settle a (tail_fault s p.at) p.clash)) ∙ h in let z : ◌≡◌ {A = ℕ} 0 1 = cc in omega arith)
    go (goes x q (k, w) e) = settled x q (tail_fault s q.at) q.clash w refl (sym (e (Whole A) fails (λ a p. settle a (tail_fault s p.at) p.clash)) ∙ h)
