-- What writing text into a buffer leaves, and its laws.
use Rattle.std.specs.Prelude.{◌≡◌, List, [], ◌++◌, ℕ, ◌+◌, ◌≤◌, length, take, drop}
use Rattle.std.proofs.Common.{sym, ap, ◌∙◌, append_assoc, add-zero, arith, length-append, length-take, take-append-drop, take_at, drop_at, drop-drop}
use Rattle.std.proofs.Math.Seq.{paste, take-length}
use Rattle.wording.specs.Writes.{Puts, Writes, line_room}

-- one behind the other
module _ {room more : ℕ} {t u a b c : List ℕ} {at m n : ℕ} (p : Puts room t a b at m) (q : Puts more u b c m n) (fits : at + length t ≤ length a) where
  head-long : length (take at a ++ t) ≡ m
  head-long = length-append (take at a) t ∙ omega (arith, length-take at a, p.moved)

  split : b ≡ (take at a ++ t) ++ drop m a
  split = p.bytes ∙ sym (append_assoc (take at a) t (drop (at + length t) a)) ∙ ap (λ (k : ℕ). (take at a ++ t) ++ drop k a) (sym p.moved)

  front : take m b ≡ take at a ++ t
  front = ap (take m) split ∙ take_at (take at a ++ t) (drop m a) m head-long

  back : drop (m + length u) b ≡ drop (m + length u) a
  back = sym (drop-drop (length u) m b) ∙ ap (drop (length u)) (ap (drop m) split ∙ drop_at (take at a ++ t) (drop m a) m head-long) ∙ drop-drop (length u) m a

  place : m + length u ≡ at + length (t ++ u)
  place = omega (arith, length-append t u, p.moved)

  pub behind : Puts (room + more) (t ++ u) a c at n
  behind = record {
    moved = q.moved ∙ place;
    short = omega (arith, length-append t u, p.short, q.short);
    bytes = q.bytes ∙ rw (front, back, place) (append_assoc (take at a) t (u ++ drop (at + length (t ++ u)) a)
        ∙ ap (λ (l : List ℕ). take at a ++ l) (sym (append_assoc t u (drop (at + length (t ++ u)) a))));
  }

-- a line from a buffer's front
pub writes : {room : ℕ} {t a b : List ℕ} {n : ℕ} → Puts room t a b 0 n → room ≤ line_room → Writes t a b n
writes {room} {t} {a} p h =
    let e = p.moved in
    let f : 0 + length t ≡ _ = sym e in
    record { count = omega arith; short = omega (arith, p.short); bytes = p.bytes ∙ ap (λ (k : ℕ). t ++ drop k a) f }

-- a text that was copied byte by byte
pub copied : {t a b : List ℕ} {at i : ℕ} → b ≡ paste a at t i → i ≤ length t → length t ≤ i → Puts (length t) t a b at (at + i)
copied {t} {a} {b} {at} {i} e h l =
    let n : i ≡ length t = omega arith in
    record {
      moved = omega arith;
      short = omega arith;
      bytes = e ∙ rw n (rw (take-length t) (append_assoc (take at a) t (drop (at + length t) a)));
    }

-- nothing written
pub nothing : (a : List ℕ) (at : ℕ) → Puts 0 [] a a at at
nothing a at = record { moved = omega arith; short = omega arith; bytes = sym (ap (λ (k : ℕ). take at a ++ drop k a) (add-zero at) ∙ take-append-drop at a) }

-- the same text under another name, with no less room
pub puts-as : {room more : ℕ} {t u a b : List ℕ} {at n : ℕ} → t ≡ u → room ≤ more → Puts room t a b at n → Puts more u a b at n
puts-as {room} {more} {t} {u} {a} {b} {at} {n} e h p =
    let k : Puts more t a b at n = record { moved = p.moved; short = omega (arith, p.short); bytes = p.bytes } in
    rw e at k

pub writes_as : {room : ℕ} {t u a b : List ℕ} {n : ℕ} → t ≡ u → Puts room t a b 0 n → room ≤ line_room → Writes u a b n
writes_as e p h = rw e at (writes p h)
