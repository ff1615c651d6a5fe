-- What a pen has written, and what one more field makes of it.
use Rattle.std.specs.Prelude.{◌≡◌, refl, List, [], ◌∷◌, ◌++◌, ℕ, ◌+◌, ◌*◌, ◌^◌, ◌≤◌, ◌<◌, length, drop}
use Rattle.std.proofs.Common.{sym, ◌∙◌, subst, append_assoc, arith, length-append}
use Rattle.layouts.specs.Layout.{bits_of, bytes}
use Rattle.numbers.specs.Sum.{All}
use Rattle.pen.specs.declared.Pen.{Pen}

-- the pending bits are fewer than 64, and no others are set
pub record Ready (p : Pen) : Type 0 where
  pub few : p.n < 64
  pub small : p.acc < 2 ^ p.n

-- A buffer that holds whole bytes of a message, and behind them what it held before; the rest of the message is pending.
pub record Penned (before after : List ℕ) (p : Pen) (bits : List ℕ) : Type 0 where
  pub front : List ℕ
  pub is : bits ≡ front ++ bits_of p.n p.acc
  pub whole : length front ≡ 8 * p.at
  pub binary : All (λ b. b < 2) front
  pub wrote : after ≡ bytes front ++ drop p.at before
  pub room : p.at ≤ length before

-- One more write, of `width` bits: behind whatever bits end at the pen, these follow.
pub record Pushes (width : ℕ) (bits entry exit : List ℕ) (p q : Pen) : Type 0 where
  pub wide : length bits ≡ width
  pub ready : Ready q
  pub moved : 8 * q.at + q.n ≡ 8 * p.at + p.n + width
  pub long : length exit ≡ length entry
  pub more : (before front : List ℕ) → Penned before entry p front → Penned before exit q (front ++ bits)

-- The message as a whole: "zero bits fill the last byte", and behind it what the buffer held before.
pub record Finishes (entry exit : List ℕ) (p : Pen) : Type 0 where
  pub long : length exit ≡ length entry
  pub whole : (before bits : List ℕ) → Penned before entry p bits → exit ≡ bytes bits ++ drop (length (bytes bits)) before

-- nothing written yet
pub penned-none : (buffer : List ℕ) → Penned buffer buffer (record { acc = 0; n = 0; at = 0 }) []
unfolding bits_of bytes
penned-none buffer = record { front = []; is = refl; whole = refl; binary = tt; wrote = refl; room = omega arith }

-- one behind the other
pub pushes-then : {u w : ℕ} {xs ys a b c : List ℕ} {p q r : Pen} → Pushes u xs a b p q → Pushes w ys b c q r → Pushes (u + w) (xs ++ ys) a c p r
pushes-then {u} {w} {xs} {ys} {a} {b} {c} {p} {q} {r} f g = record {
  wide = length-append xs ys ∙ omega (arith, f.wide, g.wide);
  ready = g.ready;
  moved = omega (arith, f.moved, g.moved);
  long = g.long ∙ f.long;
  more = λ before front W. subst (λ (l : List ℕ). Penned before c r l) (append_assoc front xs ys) (g.more before (front ++ xs) (f.more before front W));
}
