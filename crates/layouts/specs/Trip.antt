-- What is written reads back: the laws of layouts, each proved once.
use Rattle.std.specs.Prelude.{◌≡◌, refl, Bool, true, false, List, [], ◌∷◌, ◌++◌, T, length, get_or, replicate, ℤ, pos, negsuc, nat_abs}
use Rattle.std.proofs.Common.{sym, ◌∙◌, ap, length-append, get_or-append-add, le-leb}
use Prim.Native.Nat.{ℕ, zero, suc, ◌+◌, ◌-◌, ◌*◌, ◌/◌, ◌%◌, ◌^◌, ◌≤◌, ◌<◌}
use native.Mathlib.Omega.{arith}
use Rattle.std.proofs.Math.Nat.{two-pow-succ, zero-div}
use Rattle.std.proofs.Math.ListN.{get_or-append, get_or-eq_default}
use Rattle.std.proofs.lemmas.Bool.{lt-leb}
use Rattle.bits.specs.Bits.{bit_at, field_at, reach, read_field}
use Rattle.bits.specs.declared.Field.TheVariants.{Value}
use Rattle.numbers.specs.Base.{gather}
use Rattle.layouts.specs.declared.Fault.{Fault}
use Rattle.layouts.specs.declared.Clash.TheVariants.{Clear}
use Rattle.layouts.specs.declared.Place.{Place}
use Rattle.numbers.specs.Sum.{All, all_map}
use Rattle.numbers.specs.Every.{all_append, all-gather}
use Rattle.bits.specs.Twos.{from_twos, to_twos}
use Rattle.layouts.specs.Layout.{Layout, Field, bits_of, bytes, byte, bytes_for, begin, first_one, tail_fault, settle, read_whole, passes, advanced, nat, int, ◌then◌, repeated, list, such, held}

-- the message s has these bits from a place on
pub record Has (s : List ℕ) (at : ℕ) (bs : List ℕ) : Type 0 where
  pub bits : (k : ℕ) → k < length bs → bit_at s (at + k) ≡ get_or bs k 0
  pub room : at + length bs ≤ 8 * reach s

has_first : (s : List ℕ) (at : ℕ) (xs ys : List ℕ) → Has s at (xs ++ ys) → Has s at xs
has_first s at xs ys h = record {
  bits = λ k l. h.bits k (simp length-append (omega arith)) ∙ get_or-append xs ys 0 k l;
  room = let r = h.room in omega (arith, length-append xs ys);
}

has-second : (s : List ℕ) (at : ℕ) (xs ys : List ℕ) → Has s at (xs ++ ys) → Has s (at + length xs) ys
has-second s at xs ys h = record {
  bits = λ k l. let e : at + length xs + k ≡ at + (length xs + k) = omega arith in
      rw e (h.bits (length xs + k) (simp length-append (omega arith)) ∙ get_or-append-add xs ys k 0);
  room = let r = h.room in omega (arith, length-append xs ys);
}

pub length-bits : (w v : ℕ) → length (bits_of w v) ≡ w
unfolding bits_of
length-bits zero v = refl
length-bits (suc w) v = simp length-append (omega (arith, length-bits w (v / 2)))

field_is : (s : List ℕ) (at w v : ℕ) → v < 2 ^ w → Has s at (bits_of w v) → field_at s at w ≡ v
unfolding field_at bits_of
field_is s at zero v l h = omega arith
field_is s at (suc w) v l h =
    let n : length (bits_of w (v / 2)) ≡ w = length-bits w (v / 2) in
    let e : field_at s at w ≡ v / 2 = field_is s at w (v / 2) (omega (arith, two-pow-succ w)) (has_first s at (bits_of w (v / 2)) (v % 2 ∷ []) h) in
    let q = has-second s at (bits_of w (v / 2)) (v % 2 ∷ []) h in
    let t : at + w ≡ at + length (bits_of w (v / 2)) + 0 = omega arith in
    let b : bit_at s (at + w) ≡ v % 2 = rw t (q.bits 0 (omega arith)) in
    rw (e, b) (omega arith)

read_is : (s : List ℕ) (at w v : ℕ) → v < 2 ^ w → Has s at (bits_of w v) → read_field s at w ≡ Value v (record { at = at + w })
unfolding read_field
read_is s at w v l h = rw (le-leb (at + w) (8 * reach s) (omega (arith, h.room, length-bits w v)), field_is s at w v l h) refl

pub bits_small : (w v : ℕ) → All (λ b. b < 2) (bits_of w v)
unfolding bits_of
bits_small zero v = tt
bits_small (suc w) v = all_append (λ b. b < 2) (bits_of w (v / 2)) (v % 2 ∷ []) (bits_small w (v / 2)) (omega arith, tt)

-- ---- the laws

pub record Lawful {A : Type 0} (l : Layout A) (Ok : A → Type 0) : Type 1 where
  pub back : {X : Type 0} (a : A) → Ok a → (s : List ℕ) (p : Place) (bad : Fault → X) (next : A → Place → X)
      → Has s p.at (l.write a) → l.read s p bad next ≡ next a (advanced p (p.at + length (l.write a)))
  pub bits : (a : A) → Ok a → All (λ b. b < 2) (l.write a)

true-T : (b : Bool) → T b → b ≡ true
true-T true t = refl
true-T false t = absurd t

pub nat-law : (f : Field) → f.high < 2 ^ f.width → Lawful (nat f) (λ v. (f.low ≤ v) × (v ≤ f.high))
unfolding nat
nat-law f w = record {
  back = λ a ok s p bad next h.
      let l : a < 2 ^ f.width = omega arith in
      rw (read_is s p.at f.width a l h, le-leb f.low a ok.0, le-leb a f.high ok.1, length-bits f.width a) refl;
  bits = λ a ok. bits_small f.width a;
}

-- a whole number within the width, as two's complement
abbrev pub Fits : ℕ → ℤ → Type 0
Fits w (pos v) = 2 * v < 2 ^ w
Fits w (negsuc v) = 2 * v + 2 ≤ 2 ^ w

twos_small : (w : ℕ) (z : ℤ) → Fits w z → to_twos w z < 2 ^ w
unfolding to_twos
twos_small w (pos v) h = omega arith
twos_small w (negsuc v) h = omega arith

twos_back : (w : ℕ) (z : ℤ) → Fits w z → from_twos w (to_twos w z) ≡ z
unfolding to_twos from_twos
twos_back w (pos v) h = rw (le-leb (suc (2 * v)) (2 ^ w) (omega arith)) refl
twos_back w (negsuc v) h =
    let e : 2 ^ w - 1 - (2 ^ w - 1 - v) ≡ v = omega arith in
    rw (lt-leb (suc (2 * (2 ^ w - 1 - v))) (2 ^ w) (omega arith), e) refl

pub int-law : (w most : ℕ) → Lawful (int w most) (λ z. Fits w z × (nat_abs z ≤ most))
unfolding int
int-law w most = record {
  back = λ z ok s p bad next h.
      rw (read_is s p.at w (to_twos w z) (twos_small w z ok.0) h, twos_back w z ok.0, le-leb (nat_abs z) most ok.1, length-bits w (to_twos w z)) refl;
  bits = λ z ok. bits_small w (to_twos w z);
}

pub weaken : {A : Type 0} (l : Layout A) (P Q : A → Type 0) → Lawful l P → ((a : A) → Q a → P a) → Lawful l Q
weaken l P Q u f = record { back = λ a ok. u.back a (f a ok); bits = λ a ok. u.bits a (f a ok) }

pub then-law : {A B : Type 0} (l : Layout A) (m : A → Layout B) (P : A → Type 0) (Q : A → B → Type 0)
    → Lawful l P → ((a : A) → P a → Lawful (m a) (Q a)) → Lawful (l then m) (λ x. P x.0 × Q x.0 x.1)
unfolding ◌then◌
then-law l m P Q u v = record {
  back = λ x ok s p bad next h.
      u.back x.0 ok.0 s p bad _ (has_first s p.at (l.write x.0) ((m x.0).write x.1) h)
      ∙ (v x.0 ok.0).back x.1 ok.1 s (advanced p (p.at + length (l.write x.0))) bad _ (has-second s p.at (l.write x.0) ((m x.0).write x.1) h)
      ∙ ap (λ (n : ℕ). next x (advanced p n)) (omega (arith, length-append (l.write x.0) ((m x.0).write x.1)));
  bits = λ x ok. all_append (λ b. b < 2) (l.write x.0) ((m x.0).write x.1) (u.bits x.0 ok.0) ((v x.0 ok.0).bits x.1 ok.1);
}

pub held-law : {A B : Type 0} (to : A → B) (from : B → A) (l : Layout A) (P : A → Type 0) → Lawful l P → Lawful (held to from l) (λ b. P (from b) × (to (from b) ≡ b))
unfolding held
held-law to from l P u = record {
  back = λ b ok s p bad next h. u.back (from b) ok.0 s p bad _ h ∙ rw ok.1 refl;
  bits = λ b ok. u.bits (from b) ok.0;
}

pub such-law : {A : Type 0} (ok : A → Bool) (l : Layout A) (P : A → Type 0) → Lawful l P → Lawful (such ok l) (λ a. P a × T (ok a))
unfolding such
such-law ok l P u = record {
  back = λ a k s p bad next h. u.back a k.0 s p bad _ h ∙ rw (true-T (ok a) k.1) refl;
  bits = λ a k. u.bits a k.0;
}

repeated-back : {A X : Type 0} (l : Layout A) (P : A → Type 0) → Lawful l P → (xs : List A) → All P xs → (s : List ℕ) (p : Place) (bad : Fault → X) (next : List A → Place → X)
    → Has s p.at (gather l.write xs) → repeated l s (length xs) p bad next ≡ next xs (advanced p (p.at + length (gather l.write xs)))
unfolding repeated gather
repeated-back l P u [] ok s p bad next h = ap (λ (n : ℕ). next [] (advanced p n)) (omega arith)
repeated-back l P u (x ∷ xs) ok s p bad next h =
    u.back x ok.0 s p bad _ (has_first s p.at (l.write x) (gather l.write xs) h)
    ∙ repeated-back l P u xs ok.1 s (advanced p (p.at + length (l.write x))) bad _ (has-second s p.at (l.write x) (gather l.write xs) h)
    ∙ ap (λ (n : ℕ). next (x ∷ xs) (advanced p n)) (omega (arith, length-append (l.write x) (gather l.write xs)))

pub list_law : {A : Type 0} (n : ℕ) (l : Layout A) (P : A → Type 0) → Lawful l P → Lawful (list n l) (λ xs. (length xs ≡ n) × All P xs)
unfolding list
list_law n l P u = record {
  back = λ xs ok s p bad next h. rw (sym ok.0) (repeated-back l P u xs ok.1 s p bad next h);
  bits = λ xs ok. all-gather (λ b. b < 2) l.write xs (all_map (λ a k. u.bits a k) xs ok.1);
}

-- ---- bytes

bit-none : (i : ℕ) → bit_at [] i ≡ 0
unfolding bit_at
bit-none i = rw zero-div refl

pub bit_past : (x : ℕ) (s : List ℕ) (j : ℕ) → bit_at (x ∷ s) (suc (suc (suc (suc (suc (suc (suc (suc j)))))))) ≡ bit_at s j
unfolding bit_at
bit_past x s j =
    let u : suc (suc (suc (suc (suc (suc (suc (suc j))))))) / 8 ≡ suc (j / 8) = omega arith in
    let v : suc (suc (suc (suc (suc (suc (suc (suc j))))))) % 8 ≡ j % 8 = omega arith in
    rw (u, v) refl

-- eight bits ahead of others
module _ (a b c d e f g h : ℕ) (l : All (λ x. x < 2) (a ∷ b ∷ c ∷ d ∷ e ∷ f ∷ g ∷ h ∷ [])) (r t : List ℕ) (rest : (j : ℕ) → bit_at r j ≡ get_or t j 0) where
  bit-chunk : (i : ℕ) → bit_at (byte a b c d e f g h ∷ r) i ≡ get_or (a ∷ b ∷ c ∷ d ∷ e ∷ f ∷ g ∷ h ∷ t) i 0
  unfolding bit_at
  bit-chunk zero = omega arith
  bit-chunk (suc zero) = omega arith
  bit-chunk (suc (suc zero)) = omega arith
  bit-chunk (suc (suc (suc zero))) = omega arith
  bit-chunk (suc (suc (suc (suc zero)))) = omega arith
  bit-chunk (suc (suc (suc (suc (suc zero))))) = omega arith
  bit-chunk (suc (suc (suc (suc (suc (suc zero)))))) = omega arith
  bit-chunk (suc (suc (suc (suc (suc (suc (suc zero))))))) = omega arith
  bit-chunk (suc (suc (suc (suc (suc (suc (suc (suc j)))))))) = bit_past (byte a b c d e f g h) r j ∙ rest j

pad : (xs : List ℕ) (n i : ℕ) → get_or (xs ++ replicate n 0) i 0 ≡ get_or xs i 0
pad [] zero i = refl
pad [] (suc n) zero = refl
pad [] (suc n) (suc i) = pad [] n i
pad (x ∷ xs) n zero = refl
pad (x ∷ xs) n (suc i) = pad xs n i

-- a message's bits are those that were written, and 0 behind them
pub bit-bytes : (bs : List ℕ) → All (λ x. x < 2) bs → (i : ℕ) → bit_at (bytes bs) i ≡ get_or bs i 0
unfolding bytes
bit-bytes [] l i = bit-none i
bit-bytes (a ∷ []) l i = bit-chunk a 0 0 0 0 0 0 0 (omega arith) [] [] bit-none i ∙ pad (a ∷ []) 7 i
bit-bytes (a ∷ b ∷ []) l i = bit-chunk a b 0 0 0 0 0 0 (omega arith) [] [] bit-none i ∙ pad (a ∷ b ∷ []) 6 i
bit-bytes (a ∷ b ∷ c ∷ []) l i = bit-chunk a b c 0 0 0 0 0 (omega arith) [] [] bit-none i ∙ pad (a ∷ b ∷ c ∷ []) 5 i
bit-bytes (a ∷ b ∷ c ∷ d ∷ []) l i = bit-chunk a b c d 0 0 0 0 (omega arith) [] [] bit-none i ∙ pad (a ∷ b ∷ c ∷ d ∷ []) 4 i
bit-bytes (a ∷ b ∷ c ∷ d ∷ e ∷ []) l i = bit-chunk a b c d e 0 0 0 (omega arith) [] [] bit-none i ∙ pad (a ∷ b ∷ c ∷ d ∷ e ∷ []) 3 i
bit-bytes (a ∷ b ∷ c ∷ d ∷ e ∷ f ∷ []) l i = bit-chunk a b c d e f 0 0 (omega arith) [] [] bit-none i ∙ pad (a ∷ b ∷ c ∷ d ∷ e ∷ f ∷ []) 2 i
bit-bytes (a ∷ b ∷ c ∷ d ∷ e ∷ f ∷ g ∷ []) l i = bit-chunk a b c d e f g 0 (omega arith) [] [] bit-none i ∙ pad (a ∷ b ∷ c ∷ d ∷ e ∷ f ∷ g ∷ []) 1 i
bit-bytes (a ∷ b ∷ c ∷ d ∷ e ∷ f ∷ g ∷ h ∷ r) l i =
    bit-chunk a b c d e f g h (omega arith) (bytes r) r (bit-bytes r l.1.1.1.1.1.1.1.1) i

pub length-bytes : (bs : List ℕ) → length (bytes bs) ≡ (length bs + 7) / 8
unfolding bytes
length-bytes [] = refl
length-bytes (a ∷ []) = refl
length-bytes (a ∷ b ∷ []) = refl
length-bytes (a ∷ b ∷ c ∷ []) = refl
length-bytes (a ∷ b ∷ c ∷ d ∷ []) = refl
length-bytes (a ∷ b ∷ c ∷ d ∷ e ∷ []) = refl
length-bytes (a ∷ b ∷ c ∷ d ∷ e ∷ f ∷ []) = refl
length-bytes (a ∷ b ∷ c ∷ d ∷ e ∷ f ∷ g ∷ []) = refl
length-bytes (a ∷ b ∷ c ∷ d ∷ e ∷ f ∷ g ∷ h ∷ r) = omega (arith, length-bytes r)

-- ---- a whole message

first-clear : (s : List ℕ) (at n : ℕ) → ((k : ℕ) → at ≤ k → bit_at s k ≡ 0) → first_one s at n ≡ Clear
unfolding first_one
first-clear s at zero h = refl
first-clear s at (suc n) h = rw (h at (omega arith)) (first-clear s (suc at) n (λ k l. h k (omega arith)))

-- what is written reads back, and passes reading
pub whole_back : {A : Type 0} (l : Layout A) (P : A → Type 0) → Lawful l P → (a : A) → P a → length (l.write a) + 8 < 2 ^ 63 → read_whole l (bytes (l.write a)) ≡ passes a
unfolding reach read_whole tail_fault settle
whole_back l P u a ok small =
    u.back a ok (bytes (l.write a)) begin _ _ (record {
      bits = λ k i. let t : 0 + k ≡ k = omega arith in rw t (bit-bytes (l.write a) (u.bits a ok) k);
      room = let t = length-bytes (l.write a) in omega arith;
    })
    ∙ rw (
      first-clear (bytes (l.write a)) (0 + length (l.write a)) (8 * bytes_for (0 + length (l.write a)) - (0 + length (l.write a)))
          (λ k i. bit-bytes (l.write a) (u.bits a ok) k ∙ get_or-eq_default (l.write a) 0 (omega arith)),
      lt-leb (suc (bytes_for (0 + length (l.write a)))) (length (bytes (l.write a))) (let t = length-bytes (l.write a) in omega arith),
    ) refl
