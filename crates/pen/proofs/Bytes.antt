-- A message's bytes are the digits, to the base 256, of the number that its bits stand for.
use mathlib.Core.Path.{◌≡◌, refl, sym, ◌∙◌, ap, subst}
use mathlib.Core.List.{List, [], ◌∷◌, ◌++◌, append_assoc}
use Prim.Native.Nat.{ℕ, zero, suc, ◌+◌, ◌-◌, ◌*◌, ◌/◌, ◌%◌, ◌^◌, ◌≤◌, ◌<◌}
use native.Mathlib.Omega.{arith}
use native.Mathlib.Nat.{add-mul, mul_assoc, suc-add, zero-add, pow-succ'}
use lib.Arith.{digits_lt}
use lib.ListN.{length, drop, set, length-append}
use lib.Pow.{pow-add, shl_lt}
use Rattle.numbers.specs.Sum.{All}
use Rattle.layouts.specs.Layout.{bits_of, bytes, byte}
use Rattle.pen.specs.Stored.{stored}

-- the number that bits stand for, highest first
abbrev pub num : List ℕ → ℕ
num [] = 0
num (b ∷ r) = b * 2 ^ length r + num r

pub num-append : (xs ys : List ℕ) → num (xs ++ ys) ≡ num xs * 2 ^ length ys + num ys
num-append [] ys = omega arith
num-append (x ∷ xs) ys =
    let e : x * 2 ^ length (xs ++ ys) ≡ x * 2 ^ length xs * 2 ^ length ys =
    rw (length-append xs ys, pow-add 2 (length xs) (length ys)) (sym (mul_assoc x (2 ^ length xs) (2 ^ length ys))) in
    omega (arith, num-append xs ys, e, add-mul (x * 2 ^ length xs) (num xs) (2 ^ length ys))

pub num-bits : (w v : ℕ) → v < 2 ^ w → num (bits_of w v) ≡ v
unfolding bits_of
num-bits zero v l = omega arith
num-bits (suc w) v l = omega (arith, num-append (bits_of w (v / 2)) (v % 2 ∷ []), num-bits w (v / 2) (omega (arith, pow-succ' 2 w)))

pub num-lt : (bs : List ℕ) → All (λ b. b < 2) bs → num bs < 2 ^ length bs
num-lt [] h = omega arith
num-lt (b ∷ bs) h = omega (arith, digits_lt h.0 (num-lt bs h.1), pow-succ' 2 (length bs))

-- ---- digits to the base 256

unfoldable pub digits : ℕ → ℕ → List ℕ
digits zero v = []
digits (suc n) v = digits n (v / 256) ++ (v % 256 ∷ [])

more_bytes : (n : ℕ) → 2 ^ (8 * suc n) ≡ 2 ^ (8 * n) * 256
more_bytes n = let e : 8 * suc n ≡ 8 * n + 8 = omega arith in rw e (pow-add 2 (8 * n) 8)

digits-front : (n x y : ℕ) → x < 256 → y < 2 ^ (8 * n) → digits (suc n) (x * 2 ^ (8 * n) + y) ≡ x ∷ digits n y
unfolding digits
digits-front zero x y h l = let e : (x * 1 + y) % 256 ≡ x = omega arith in rw e refl
digits-front (suc n) x y h l =
    let m = more_bytes n in
    let e : x * 2 ^ (8 * suc n) ≡ x * 2 ^ (8 * n) * 256 = rw m (sym (mul_assoc x (2 ^ (8 * n)) 256)) in
    let d : (x * 2 ^ (8 * suc n) + y) / 256 ≡ x * 2 ^ (8 * n) + y / 256 = omega arith in
    let r : (x * 2 ^ (8 * suc n) + y) % 256 ≡ y % 256 = omega arith in
    rw (d, r, digits-front n x (y / 256) h (omega arith)) refl

-- the bytes stored behind a front are digits
set-behind : (p l : List ℕ) (n x : ℕ) → set (p ++ l) (length p + n) x ≡ p ++ set l n x
set-behind [] l n x = rw (zero-add n) refl
set-behind (y ∷ p) l n x = rw (suc-add (length p) n) (ap (λ (m : List ℕ). y ∷ m) (set-behind p l n x))

drop-set : (l : List ℕ) (n x : ℕ) → n < length l → drop n (set l n x) ≡ x ∷ drop (suc n) l
drop-set [] n x h = absurd (omega arith)
drop-set (y ∷ l) zero x h = refl
drop-set (y ∷ l) (suc n) x h = drop-set l n x (omega arith)

pub stored-digits : (p l : List ℕ) (n v : ℕ) → n ≤ length l → stored (p ++ l) (length p) n v ≡ p ++ (digits n v ++ drop n l)
unfolding stored digits
stored-digits p l zero v h = refl
stored-digits p l (suc n) v h =
    rw (set-behind p l n (v % 256))
    (stored-digits p (set l n (v % 256)) n (v / 256) (omega (arith, lib.ListN.length-set l n (v % 256)))
    ∙ rw (drop-set l n (v % 256) h, append_assoc (digits n (v / 256)) (v % 256 ∷ []) (drop (suc n) l)) refl)

-- ---- the bytes of bits

byte-num : (a b c d e f g h : ℕ) → num (a ∷ b ∷ c ∷ d ∷ e ∷ f ∷ g ∷ h ∷ []) ≡ byte a b c d e f g h
byte-num a b c d e f g h = omega arith

last-digit : (n x y : ℕ) → n ≡ 1 → x ≡ y → x < 256 → y ∷ [] ≡ digits n x
unfolding digits
last-digit n x y e q l = let s : x % 256 ≡ y = omega arith in rw (e, s) refl

pub bytes-digits : (bs : List ℕ) (n t : ℕ) → All (λ b. b < 2) bs → length bs + t ≡ 8 * n → t < 8 → bytes bs ≡ digits n (num bs * 2 ^ t)
unfolding bytes digits
bytes-digits [] zero t h e l = refl
bytes-digits [] (suc n) t h e l = absurd (omega arith)
bytes-digits (a ∷ []) n t h e l = let k : t ≡ 7 = omega arith in rw k (last-digit n _ _ (omega arith) (omega arith) (omega arith))
bytes-digits (a ∷ b ∷ []) n t h e l = let k : t ≡ 6 = omega arith in rw k (last-digit n _ _ (omega arith) (omega arith) (omega arith))
bytes-digits (a ∷ b ∷ c ∷ []) n t h e l = let k : t ≡ 5 = omega arith in rw k (last-digit n _ _ (omega arith) (omega arith) (omega arith))
bytes-digits (a ∷ b ∷ c ∷ d ∷ []) n t h e l = let k : t ≡ 4 = omega arith in rw k (last-digit n _ _ (omega arith) (omega arith) (omega arith))
bytes-digits (a ∷ b ∷ c ∷ d ∷ e' ∷ []) n t h e l = let k : t ≡ 3 = omega arith in rw k (last-digit n _ _ (omega arith) (omega arith) (omega arith))
bytes-digits (a ∷ b ∷ c ∷ d ∷ e' ∷ f ∷ []) n t h e l = let k : t ≡ 2 = omega arith in rw k (last-digit n _ _ (omega arith) (omega arith) (omega arith))
bytes-digits (a ∷ b ∷ c ∷ d ∷ e' ∷ f ∷ g ∷ []) n t h e l = let k : t ≡ 1 = omega arith in rw k (last-digit n _ _ (omega arith) (omega arith) (omega arith))
bytes-digits (a ∷ b ∷ c ∷ d ∷ e' ∷ f ∷ g ∷ h' ∷ r) zero t h e l = absurd (omega arith)
bytes-digits (a ∷ b ∷ c ∷ d ∷ e' ∷ f ∷ g ∷ h' ∷ r) (suc n) t h e l =
    let x = byte a b c d e' f g h' in
    let s = h.1.1.1.1.1.1.1.1 in
    let q : length r + t ≡ 8 * n = omega arith in
    let m : num (a ∷ b ∷ c ∷ d ∷ e' ∷ f ∷ g ∷ h' ∷ r) ≡ x * 2 ^ length r + num r =
    num-append (a ∷ b ∷ c ∷ d ∷ e' ∷ f ∷ g ∷ h' ∷ []) r ∙ ap (λ (y : ℕ). y * 2 ^ length r + num r) (byte-num a b c d e' f g h') in
    let p : (x * 2 ^ length r + num r) * 2 ^ t ≡ x * 2 ^ (8 * n) + num r * 2 ^ t =
    add-mul (x * 2 ^ length r) (num r) (2 ^ t)
    ∙ ap (λ (y : ℕ). y + num r * 2 ^ t) (mul_assoc x (2 ^ length r) (2 ^ t) ∙ ap (λ (y : ℕ). x * y) (sym (pow-add 2 (length r) t) ∙ ap (λ (k : ℕ). 2 ^ k) q)) in
    let u : num r * 2 ^ t < 2 ^ (8 * n) = subst (λ (k : ℕ). num r * 2 ^ t < 2 ^ k) q (shl_lt (length r) t (num-lt r s)) in
    ap (λ (k : List ℕ). x ∷ k) (bytes-digits r n t s q l)
    ∙ (sym (digits-front n x (num r * 2 ^ t) (omega arith) u) ∙ sym (ap (digits (suc n)) (ap (λ (y : ℕ). y * 2 ^ t) m ∙ p)))

-- whole bytes ahead of others
pub bytes-append : (q : ℕ) (xs ys : List ℕ) → length xs ≡ 8 * q → bytes (xs ++ ys) ≡ bytes xs ++ bytes ys
unfolding bytes
bytes-append q [] ys e = refl
bytes-append q (a ∷ []) ys e = absurd (omega arith)
bytes-append q (a ∷ b ∷ []) ys e = absurd (omega arith)
bytes-append q (a ∷ b ∷ c ∷ []) ys e = absurd (omega arith)
bytes-append q (a ∷ b ∷ c ∷ d ∷ []) ys e = absurd (omega arith)
bytes-append q (a ∷ b ∷ c ∷ d ∷ f ∷ []) ys e = absurd (omega arith)
bytes-append q (a ∷ b ∷ c ∷ d ∷ f ∷ g ∷ []) ys e = absurd (omega arith)
bytes-append q (a ∷ b ∷ c ∷ d ∷ f ∷ g ∷ h ∷ []) ys e = absurd (omega arith)
bytes-append q (a ∷ b ∷ c ∷ d ∷ f ∷ g ∷ h ∷ i ∷ r) ys e = ap (λ (k : List ℕ). byte a b c d f g h i ∷ k) (bytes-append (q - 1) r ys (omega arith))
