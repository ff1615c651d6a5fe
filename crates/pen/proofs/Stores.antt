-- A number stored byte by byte, and two fields as one.
use mathlib.Core.Path.{◌≡◌, refl, sym, ◌∙◌, ap}
use mathlib.Core.List.{List, ◌∷◌, [], ◌++◌, append_assoc, append-nil}
use Prim.Native.Nat.{ℕ, zero, suc, ◌+◌, ◌-◌, ◌*◌, ◌/◌, ◌%◌, ◌^◌, ◌≤◌, ◌<◌}
use native.Mathlib.Omega.{arith}
use native.Mathlib.Nat.{add-suc, add-zero, two-pow-succ, mul-add}
use lib.ListN.{length, set, length-set}
use Rattle.layouts.specs.Layout.{bits_of}
use Rattle.pen.specs.Stored.{stored}

pub length-stored : (l : List ℕ) (first n v : ℕ) → length (stored l first n v) ≡ length l
unfolding stored
length-stored l first zero v = refl
length-stored l first (suc n) v = length-stored (set l (first + n) (v % 256)) first n (v / 256) ∙ length-set l (first + n) (v % 256)

-- one byte less to store, and none
pub store-more : (l : List ℕ) (first j v : ℕ) → first < j → stored (set l (j - 1) (v % 256)) first (j - 1 - first) (v / 256) ≡ stored l first (j - first) v
unfolding stored
store-more l first j v h =
    let e : j - first ≡ suc (j - 1 - first) = omega arith in
    let f : first + (j - 1 - first) ≡ j - 1 = omega arith in
    ap (λ (n : ℕ). stored (set l n (v % 256)) first (j - 1 - first) (v / 256)) (sym f) ∙ ap (λ (n : ℕ). stored l first n v) (sym e)

pub store-none : (l : List ℕ) (first j v : ℕ) → j ≤ first → stored l first (j - first) v ≡ l
unfolding stored
store-none l first j v h = let e : j - first ≡ 0 = omega arith in rw e refl

-- two fields as one
pub joined : (u w a b : ℕ) → b < 2 ^ w → bits_of (u + w) (a * 2 ^ w + b) ≡ bits_of u a ++ bits_of w b
unfolding bits_of
joined u zero a b h = let e : a * 1 + b ≡ a = omega arith in rw (add-zero u, e) (sym (append-nil (bits_of u a)))
joined u (suc w) a b h =
    let p = mul-add a (2 ^ w) (2 ^ w) in
    let s = two-pow-succ w in
    let d : (a * 2 ^ suc w + b) / 2 ≡ a * 2 ^ w + b / 2 = rw s (omega arith) in
    let r : (a * 2 ^ suc w + b) % 2 ≡ b % 2 = rw s (omega arith) in
    rw (add-suc u w, d, r, joined u w a (b / 2) (omega arith)) (append_assoc (bits_of u a) (bits_of w (b / 2)) (b % 2 ∷ []))
