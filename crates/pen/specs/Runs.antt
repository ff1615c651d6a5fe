-- Laws by which writes follow one another.
use Rattle.std.specs.Prelude.{◌≡◌, refl, List, [], ◌++◌, ℕ, zero, suc, ◌+◌, ◌*◌, ◌≤◌, ◌<◌, length, drop}
use Rattle.std.proofs.Common.{sym, ◌∙◌, subst, append-nil, arith, add-one, add-mul}
use Rattle.numbers.specs.Parts.{part-inside}
use Rattle.layouts.specs.Layout.{bytes}
use Rattle.pen.specs.declared.Pen.{Pen}
use Rattle.pen.specs.Pens.{Ready, Penned, Pushes, Finishes, penned-none, pushes-then}

-- a pen that has written nothing
abbrev pub fresh : Pen
fresh = record { acc = 0; n = 0; at = 0 }

-- the next bit
abbrev pub bit_of : Pen → ℕ
bit_of p = 8 * p.at + p.n

-- w bits fit behind a pen
abbrev pub Room : List ℕ → Pen → ℕ → Type 0
Room buffer p w = bit_of p + w ≤ 8 * length buffer

pub pushes-none : (buffer : List ℕ) (p : Pen) → Ready p → Pushes 0 [] buffer buffer p p
pushes-none buffer p h = record { wide = refl; ready = h; moved = omega arith; long = refl; more = λ before front W. rw (append-nil front) W }

-- the same bits and width, said otherwise
pub pushes-as : {u w : ℕ} {xs ys a b : List ℕ} {p q : Pen} → xs ≡ ys → u ≡ w → Pushes u xs a b p q → Pushes w ys a b p q
pushes-as {u} {w} {xs} {ys} {a} {b} {p} {q} e f h = subst (λ (l : List ℕ). Pushes w l a b p q) e (subst (λ (k : ℕ). Pushes k xs a b p q) f h)

-- a whole message: "exactly the completion's bytes, the rest of the buffer unchanged"
pub pushes-whole : {w : ℕ} {bits entry middle exit : List ℕ} {q : Pen} → Pushes w bits entry middle fresh q → Finishes middle exit q → exit ≡ bytes bits ++ drop (length (bytes bits)) entry
pushes-whole {bits = bits} {entry = entry} h f = f.whole entry bits (h.more entry [] (penned-none entry))

-- the bits that a function gives for 0, 1, .., n − 1, one behind the other
unfoldable pub run : (ℕ → List ℕ) → ℕ → List ℕ
run f zero = []
run f (suc n) = run f n ++ f n

-- a loop: none written, and one more, each as wide as the others or not
pub run_none : (f : ℕ → List ℕ) (buffer : List ℕ) (p : Pen) → Ready p → Pushes 0 (run f 0) buffer buffer p p
unfolding run
run_none f buffer p h = pushes-none buffer p h

pub run_more : (f : ℕ → List ℕ) (k : ℕ) {u w : ℕ} {a b c : List ℕ} {p q r : Pen} → Pushes u (run f k) a b p q → Pushes w (f k) b c q r → Pushes (u + w) (run f (k + 1)) a c p r
unfolding run
run_more f k {u} {w} {a} {b} {c} {p} {q} {r} h i = subst (λ (l : ℕ). Pushes (u + w) (run f l) a c p r) (sym (add-one k)) (pushes-then h i)

pub run-even : (f : ℕ → List ℕ) (k : ℕ) {w : ℕ} {a b c : List ℕ} {p q r : Pen} → Pushes (k * w) (run f k) a b p q → Pushes w (f k) b c q r → Pushes ((k + 1) * w) (run f (k + 1)) a c p r
run-even f k {w} h i = pushes-as refl (omega (arith, add-mul k 1 w)) (run_more f k h i)

-- a loop that counts up to n is left with n of them
pub run-done : (f : ℕ → List ℕ) (k n w : ℕ) {a b : List ℕ} {p q : Pen} → k ≤ n → n ≤ k → Pushes (k * w) (run f k) a b p q → Pushes (n * w) (run f n) a b p q
run-done f k n w {a} {b} {p} {q} h l i = let e : k ≡ n = omega arith in subst (λ (j : ℕ). Pushes (j * w) (run f j) a b p q) e i

-- where n parts of w bits fit, the one behind k of them fits
pub room_at : {bits a b : List ℕ} {p q : Pen} (k n w : ℕ) → k < n → Pushes (k * w) bits a b p q → Room a p (n * w) → Room b q w
room_at k n w h i r = omega (arith, i.moved, i.long, part-inside w k n h)
