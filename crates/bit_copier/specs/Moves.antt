-- What a copier has copied and written, and how its steps follow one another.
use Rattle.std.specs.Prelude.{◌≡◌, refl, List, [], ◌∷◌, ◌++◌, ℕ, zero, suc, ◌+◌, ◌-◌, ◌*◌, ◌/◌, ◌%◌, ◌^◌, ◌≤◌, ◌<◌, length, drop}
use Rattle.std.proofs.Common.{sym, ◌∙◌, ap, append-nil, append_assoc, arith, add-one, length-append, lt-ltb, ne_eqb}
use Rattle.std.proofs.Math.Nat.{two-pow-succ, pow-le-pow_right}
use Rattle.bits.specs.Bits.{bit_at, field_at, reach}
use Rattle.bits.specs.Pick.{pick}
use Rattle.bits.proofs.Laws.{bit-lt, field_lt}
use Rattle.layouts.specs.Layout.{bits_of, bytes}
use Rattle.layouts.specs.Trip.{length-bits, length-bytes}
use Rattle.layouts.specs.Since.{has, has-not, has-it}
use Rattle.pen.specs.declared.Pen.{Pen}
use Rattle.pen.specs.Pens.{Ready, Pushes, Finishes, pushes-then}
use Rattle.pen.specs.Runs.{Room, bit_of, fresh, pushes-none, pushes-as, pushes-whole}
use Rattle.writing.specs.Splice.{Splice, none, keep, add, by, ◌⨾◌, times, past, spliced, farther, along}
use Rattle.writing.proofs.Splice.{past_up}
use Rattle.model.specs.ByEdition.{first_line, second_line}
use Rattle.bit_copier.specs.declared.Copier.{Copier}

-- more bits than any message has
abbrev pub most : ℕ
most = 2 ^ 40

-- one field more, of a number
pub record Puts (width value : ℕ) (entry exit : List ℕ) (p r : Pen) : Type 0 where
  pub ready : Ready r
  pub long : length exit ≡ length entry
  pub moved : bit_of p + width ≤ most → bit_of r ≡ bit_of p + width
  pub pushes : bit_of p + width ≤ most → Room entry p width → Pushes width (bits_of width value) entry exit p r

-- the bytes of what a pen has written or counted
pub record Counted (p : Pen) (r : ℕ) : Type 0 where
  pub small : r ≤ 2 ^ 41
  pub is : bit_of p ≤ most → r ≡ (bit_of p + 7) / 8

-- the last bits of a message, where there is room for it
pub record Closes (entry exit : List ℕ) (p : Pen) : Type 0 where
  pub long : length exit ≡ length entry
  pub whole : bit_of p ≤ most → bit_of p ≤ 8 * length entry → Finishes entry exit p

-- a copier that can go on in a message
pub record Set (s : List ℕ) (q : Copier) : Type 0 where
  pub ready : Ready q.pen
  pub inside : q.from ≤ 8 * reach s

-- a number added, and nothing copied
pub record Adding (width value : ℕ) (entry exit : List ℕ) (q r : Copier) : Type 0 where
  pub from : r.from ≡ q.from
  pub put : Puts width value entry exit q.pen r.pen

-- the value of the next field, where the message has it
pub record Peeked (width : ℕ) (s : List ℕ) (q : Copier) (v : ℕ) : Type 0 where
  pub small : v < 2 ^ width
  pub is : q.from + width ≤ 8 * reach s → v ≡ field_at s q.from width

-- a splice that ends inside the message, and gives no more than any message has
pub record Within (t : Splice) (s : List ℕ) (q : Copier) : Type 0 where
  pub inside : past t s q.from ≤ 8 * reach s
  pub small : bit_of q.pen + length (spliced t s q.from) ≤ most

pub record Does (t : Splice) (s entry exit : List ℕ) (q r : Copier) : Type 0 where
  pub from : r.from ≡ past t s q.from
  pub moved : bit_of r.pen ≡ bit_of q.pen + length (spliced t s q.from)
  pub pushes : Room entry q.pen (length (spliced t s q.from)) → Pushes (length (spliced t s q.from)) (spliced t s q.from) entry exit q.pen r.pen

-- what a step does by a splice; it never leaves the message, whatever the message is
pub record Moves (t : Splice) (s entry exit : List ℕ) (q r : Copier) : Type 0 where
  pub ready : Ready r.pen
  pub inside : r.from ≤ 8 * reach s
  pub long : length exit ≡ length entry
  pub does : Within t s q → Does t s entry exit q r

pub set_after : {t : Splice} {s entry exit : List ℕ} {q r : Copier} → Moves t s entry exit q r → Set s r
set_after m = record { ready = m.ready; inside = m.inside }

-- ---- a field

pow-some : (n : ℕ) → 0 < 2 ^ n
pow-some zero = omega arith
pow-some (suc n) = omega (arith, two-pow-succ n, pow-some n)

-- what puts one field is a step by any splice that gives its bits
put-moves : (t : Splice) (w v : ℕ) {s entry exit : List ℕ} {q r : Copier} → spliced t s q.from ≡ bits_of w v → r.from ≡ past t s q.from → r.from ≤ 8 * reach s
    → Puts w v entry exit q.pen r.pen → Moves t s entry exit q r
put-moves t w v {s} {entry} {exit} {q} {r} e f i p =
    let n : length (spliced t s q.from) ≡ w = ap length e ∙ length-bits w v in
    record {
      ready = p.ready;
      inside = i;
      long = p.long;
      does = λ k. let small : bit_of q.pen + w ≤ most = omega (arith, k.small) in record {
        from = f;
        moved = p.moved small ∙ omega arith;
        pushes = λ room. pushes-as (sym e) (sym n) (p.pushes small (omega arith));
      };
    }

pub add-moves : (w v : ℕ) {s entry exit : List ℕ} {q r : Copier} → Set s q → Adding w v entry exit q r → Moves (add w v) s entry exit q r
unfolding past spliced
add-moves w v h a = put-moves (add w v) w v refl a.from (omega (arith, a.from, h.inside)) a.put

-- so many bits of the message, whose value is v, in another width
pub wide-moves : (u w v : ℕ) {s entry exit : List ℕ} {q r : Copier} → v ≡ field_at s q.from u → r.from ≡ q.from + u → q.from + u ≤ 8 * reach s → Puts w v entry exit q.pen r.pen
    → Moves (by u w (λ x. none)) s entry exit q r
unfolding past spliced
wide-moves u w v e f i p = put-moves (by u w (λ x. none)) w v (rw e (append-nil _)) f (omega arith) p

-- a message that ends too early is left alone: nothing is said of the splice
pub short-moves : (t : Splice) {s buffer : List ℕ} {q : Copier} → Set s q → 8 * reach s < past t s q.from → Moves t s buffer buffer q q
short-moves t h k = record { ready = h.ready; inside = h.inside; long = refl; does = λ w. absurd (omega (arith, w.inside)) }

pub short-wide : (u w : ℕ) {s buffer : List ℕ} {q : Copier} → Set s q → 8 * reach s - q.from < u → Moves (by u w (λ x. none)) s buffer buffer q q
unfolding past
short-wide u w {s} {buffer} {q} h k = short-moves (by u w (λ x. none)) h (omega (arith, h.inside))

-- ---- one behind the other

pub moves-none : {s buffer : List ℕ} {q : Copier} → Set s q → Moves none s buffer buffer q q
unfolding past spliced
moves-none {s} {buffer} {q} h = record {
  ready = h.ready;
  inside = h.inside;
  long = refl;
  does = λ w. record { from = refl; moved = omega arith; pushes = λ room. pushes-none buffer q.pen h.ready };
}

pub moves-then : {t u : Splice} {s a b c : List ℕ} {p q r : Copier} → Moves t s a b p q → Moves u s b c q r → Moves (t ⨾ u) s a c p r
unfolding past spliced
moves-then {t} {u} {s} {a} {b} {c} {p} {q} {r} f g = record {
  ready = g.ready;
  inside = g.inside;
  long = g.long ∙ f.long;
  does = λ w. both w;
}
  where
    both : Within (t ⨾ u) s p → Does (t ⨾ u) s a c p r
    both w =
        let n = length-append (spliced t s p.from) (spliced u s (past t s p.from)) in
        let x = f.does (record { inside = omega (arith, w.inside, past_up u s (past t s p.from)); small = omega (arith, w.small) }) in
        let e = x.from in
        let l : length (spliced u s q.from) ≡ length (spliced u s (past t s p.from)) = ap (λ (k : ℕ). length (spliced u s k)) e in
        let y = g.does (record { inside = rw e w.inside; small = omega (arith, w.small, x.moved) }) in
        record {
          from = y.from ∙ ap (past u s) e;
          moved = omega (arith, y.moved, x.moved);
          pushes = λ room. pushes-as (ap (λ (k : ℕ). spliced t s p.from ++ spliced u s k) e) (omega arith)
              (pushes-then (x.pushes (omega arith)) (y.pushes (omega (arith, x.moved, f.long))));
        }

-- the bytes that can be read are there, and a count of their bits fits
pub record Reached (s : List ℕ) : Type 0 where
  pub there : reach s ≤ length s
  pub few : reach s ≤ 2 ^ 61 - 1

pub reached-is : (s : List ℕ) → Reached s
unfolding reach
reached-is s = record { there = omega arith; few = omega arith }

-- a field's value is within its width
pub field-small : (s : List ℕ) (at w v : ℕ) → v ≡ field_at s at w → v < 2 ^ w
field-small s at w v e = rw e (field_lt s at w)

pub wide-small : (s : List ℕ) (at w u v : ℕ) → v ≡ field_at s at w → w ≤ u → v < 2 ^ u
wide-small s at w u v e h = let two : 0 < 2 = omega arith in omega (arith, field-small s at w v e, pow-le-pow_right two h)

pub peeked-is : (w v : ℕ) (s : List ℕ) (q : Copier) → v ≡ field_at s q.from w → Peeked w s q v
peeked-is w v s q e = record { small = field-small s q.from w v e; is = λ i. e }

-- ---- said otherwise

-- a splice that leads to the same place and gives the same bits, from one place
pub record Alike (t u : Splice) (s : List ℕ) (at : ℕ) : Type 0 where
  pub past : past t s at ≡ past u s at
  pub bits : spliced t s at ≡ spliced u s at

pub moves-as : {t u : Splice} {s a b : List ℕ} {q r : Copier} → Alike t u s q.from → Moves t s a b q r → Moves u s a b q r
moves-as {t} {u} {s} {a} {b} {q} {r} e m = record { ready = m.ready; inside = m.inside; long = m.long; does = λ w. go w }
  where
    go : Within u s q → Does u s a b q r
    go w =
        let n : length (spliced t s q.from) ≡ length (spliced u s q.from) = ap length e.bits in
        let d = m.does (record { inside = rw e.past w.inside; small = omega (arith, w.small) }) in
        record { from = d.from ∙ e.past; moved = omega (arith, d.moved); pushes = λ room. pushes-as e.bits n (d.pushes (omega arith)) }

-- so many bits in two runs
field-split : (s : List ℕ) (at a b : ℕ) → bits_of (a + b) (field_at s at (a + b)) ≡ bits_of a (field_at s at a) ++ bits_of b (field_at s (at + a) b)
unfolding bits_of field_at
field-split s at a zero = let e : a + 0 ≡ a = omega arith in rw e (sym (append-nil _))
field-split s at a (suc b) =
    let e : a + suc b ≡ suc (a + b) = omega arith in
    let m : at + (a + b) ≡ at + a + b = omega arith in
    let x = bit-lt s (at + a + b) in
    let u : (field_at s at (a + b) * 2 + bit_at s (at + a + b)) / 2 ≡ field_at s at (a + b) = omega arith in
    let v : (field_at s at (a + b) * 2 + bit_at s (at + a + b)) % 2 ≡ bit_at s (at + a + b) = omega arith in
    let u' : (field_at s (at + a) b * 2 + bit_at s (at + a + b)) / 2 ≡ field_at s (at + a) b = omega arith in
    let v' : (field_at s (at + a) b * 2 + bit_at s (at + a + b)) % 2 ≡ bit_at s (at + a + b) = omega arith in
    rw (e, m, u, v, u', v') (ap (λ (l : List ℕ). l ++ (bit_at s (at + a + b) ∷ [])) (field-split s at a b) ∙ append_assoc (bits_of a (field_at s at a)) (bits_of b (field_at s
    (at + a) b)) (bit_at s (at + a + b) ∷ []))

pub keep-both : (a b : ℕ) (s : List ℕ) (at : ℕ) → Alike (keep a ⨾ keep b) (keep (a + b)) s at
unfolding past spliced
keep-both a b s at = record { past = omega arith; bits = sym (field-split s at a b) }

pub keep-none : {s buffer : List ℕ} {q : Copier} → Set s q → Moves (keep 0) s buffer buffer q q
unfolding past spliced bits_of
keep-none {s} {buffer} {q} h = moves-as (record { past = omega arith; bits = refl }) (moves-none h)

pub keep-more : (a b n : ℕ) {s x y z : List ℕ} {p q r : Copier} → a + b ≡ n → Moves (keep a) s x y p q → Moves (keep b) s y z q r → Moves (keep n) s x z p r
keep-more a b n {s} {x} {y} {z} {p} {q} {r} e f g = rw (sym e) (moves-as (keep-both a b s p.from) (moves-then f g))

-- n parts of one width
pub times-keep : (n w : ℕ) (s : List ℕ) (at : ℕ) → Alike (keep (n * w)) (times n (keep w)) s at
unfolding past spliced farther along bits_of
times-keep zero w s at = let e : 0 * w ≡ 0 = omega arith in rw e (record { past = omega arith; bits = refl })
times-keep (suc n) w s at =
    let h = times-keep n w s at in
    let e : suc n * w ≡ n * w + w = omega arith in
    rw e (record {
      past = omega (arith, h.past);
      bits = field-split s at (n * w) w ∙ ap (λ (l : List ℕ). l ++ bits_of w (field_at s (at + n * w) w)) h.bits ∙ ap (λ (k : ℕ). along (spliced (keep w) s) (past
          (keep w) s) n at ++ bits_of w (field_at s k w)) h.past;
    })

-- what came with an edition
pub since-lacks : (e k : ℕ) (t : Splice) {u : Splice} {s a b : List ℕ} {q r : Copier} → e < k → Moves u s a b q r → Moves (pick (has k e) t u) s a b q r
since-lacks e k t h m = rw (has-not k e h) m

pub since-has : (e k : ℕ) {t : Splice} (u : Splice) {s a b : List ℕ} {q r : Copier} → k ≤ e → Moves t s a b q r → Moves (pick (has k e) t u) s a b q r
since-has e k u h m = rw (has-it k e h) m

-- a field that decides what follows
pub moves-by : (u w n : ℕ) (f : ℕ → Splice) {s a b c : List ℕ} {p q r : Copier} → Peeked u s p n → Moves (by u w (λ x. none)) s a b p q → Moves (f n) s b c q r → Moves (by u w f) s a c p r
unfolding past spliced
moves-by u w n f {s} {a} {b} {c} {p} {q} {r} k x y = record { ready = y.ready; inside = y.inside; long = y.long ∙ x.long; does = λ z. go z }
  where
    go : Within (by u w f) s p → Does (by u w f) s a c p r
    go z =
        let i : p.from + u ≤ 8 * reach s = omega (arith, z.inside, past_up (f (field_at s p.from u)) s (p.from + u)) in
        let e : n ≡ field_at s p.from u = k.is i in
        let m : Moves (by u w (λ x. none) ⨾ f n) s a c p r = moves-then x y in
        let alike : Alike (by u w (λ x. none) ⨾ f n) (by u w f) s p.from = record { past = rw e refl; bits = rw (e, append-nil) refl } in
        (moves-as alike m).does z

pub moves-by-keep : (w n : ℕ) (f : ℕ → Splice) {s a b c : List ℕ} {p q r : Copier} → Peeked w s p n → Moves (keep w) s a b p q → Moves (f n) s b c q r → Moves (by w w f) s a c p r
unfolding past spliced
moves-by-keep w n f {s} {a} {b} {c} {p} k x y = moves-by w w n f k (moves-as (record { past = refl; bits = sym (append-nil _) }) x) y

-- a loop of parts
pub times_none : (t : Splice) {s buffer : List ℕ} {q : Copier} → Set s q → Moves (times 0 t) s buffer buffer q q
unfolding past spliced farther along
times_none t h = moves-as (record { past = refl; bits = refl }) (moves-none h)

pub times_more : (k : ℕ) {t : Splice} {s a b c : List ℕ} {p q r : Copier} → Moves (times k t) s a b p q → Moves t s b c q r → Moves (times (k + 1) t) s a c p r
unfolding past spliced farther along
times_more k {t} {s} {a} {b} {c} {p} {q} {r} f g = rw (add-one k) (moves-as (record { past = refl; bits = refl }) (moves-then f g))

pub times-done : (k n : ℕ) {t : Splice} {s a b : List ℕ} {q r : Copier} → k ≤ n → n ≤ k → Moves (times k t) s a b q r → Moves (times n t) s a b q r
times-done k n {t} {s} {a} {b} {q} {r} h i m = let e : k ≡ n = omega arith in rw (sym e) m

pub keep_all : (n m : ℕ) {s a b : List ℕ} {q r : Copier} → n ≡ m → Moves (keep n) s a b q r → Moves (keep m) s a b q r
keep_all n m e h = rw (sym e) h

-- a count of parts of one width, copied in one run
pub counted-run : (n w : ℕ) {s a b c : List ℕ} {p q r : Copier} → Peeked 3 s p n → Moves (keep 3) s a b p q → Moves (keep (n * w)) s b c q r → Moves (by 3 3 (λ k. times k (keep w))) s a c p r
counted-run n w {s} {q = q} k x y = moves-by-keep 3 n (λ m. times m (keep w)) k x (moves-as (times-keep n w s q.from) y)

-- the width of a field, said otherwise
pub by_as : (v u w : ℕ) (f : ℕ → Splice) {s a b : List ℕ} {q r : Copier} → v ≡ u → Moves (by v w f) s a b q r → Moves (by u w f) s a b q r
by_as v u w f e m = rw (sym e) m

-- the lines of a link kind
pub lines_none : (kind : ℕ) {s buffer : List ℕ} {q : Copier} → kind ≡ 0 → Set s q → Moves (pick (first_line kind) (keep 33) none ⨾ pick (second_line kind) (keep 33) none) s buffer buffer q q
lines_none kind e h = rw e (moves-then (moves-none h) (moves-none h))

pub lines_two : (kind : ℕ) {s a b : List ℕ} {q r : Copier} → kind ≡ 1 → Moves (keep 66) s a b q r → Moves (pick (first_line kind) (keep 33) none ⨾ pick (second_line kind) (keep 33) none) s a b q r
lines_two kind {s} {a} {b} {q} {r} e m = let k = keep-both 33 33 s q.from in rw e (moves-as (record { past = sym k.past; bits = sym k.bits }) m)

pub lines-one : (kind : ℕ) {s a b : List ℕ} {q r : Copier} → (kind ≡ 0 → ⊥) → (kind ≡ 1 → ⊥) → Moves (keep 33) s a b q r
    → Moves (pick (first_line kind) (keep 33) none ⨾ pick (second_line kind) (keep 33) none) s a b q r
lines-one kind h k m = rw (lt-ltb 0 kind (omega arith), ne_eqb kind 1 k) (moves-then m (moves-none (set_after m)))

-- ---- the end of a message

pub counted-far : (p : Pen) → most < p.at → Counted p 0
counted-far p h = record { small = omega arith; is = λ i. absurd (omega arith) }

pub counted-near : (p : Pen) → Ready p → p.at ≤ most → Counted p (p.at + (p.n + 7) / 8)
counted-near p k h = record { small = omega (arith, k.few); is = λ i. omega arith }

pub closes-all : (entry exit : List ℕ) (p : Pen) → Finishes entry exit p → Closes entry exit p
closes-all entry exit p f = record { long = f.long; whole = λ i j. f }

-- a run of parts of one width
pub run-times : (n w : ℕ) {s a b : List ℕ} {q r : Copier} → Moves (keep (n * w)) s a b q r → Moves (times n (keep w)) s a b q r
run-times n w {s} {q = q} m = moves-as (times-keep n w s q.from) m

-- ---- a whole message, in two passes: one that counts, one that writes

abbrev pub start : ℕ → Copier
start at = record { from = at; pen = fresh }

pub set-start : (at : ℕ) {s : List ℕ} → at ≤ 8 * reach s → Set s (start at)
set-start at h = record { ready = record { few = omega arith; small = omega arith }; inside = h }

-- the bytes needed, and the message where they fit; else the buffer as it was
pub record Renews (t : Splice) (at : ℕ) (s entry exit : List ℕ) (needed : ℕ) : Type 0 where
  pub long : length exit ≡ length entry
  pub counts : past t s at ≤ 8 * reach s → length (spliced t s at) ≤ most → needed ≡ length (bytes (spliced t s at))
  pub writes : past t s at ≤ 8 * reach s → length (spliced t s at) ≤ most → needed ≤ length entry → exit ≡ bytes (spliced t s at) ++ drop (length (bytes (spliced t s at))) entry
  pub stays : length entry < needed → exit ≡ entry

within-start : (t : Splice) (at : ℕ) (s : List ℕ) → past t s at ≤ 8 * reach s → length (spliced t s at) ≤ most → Within t s (start at)
within-start t at s h k = record { inside = h; small = omega arith }

needed-is : (t : Splice) (at : ℕ) {s x y : List ℕ} {q : Copier} {n : ℕ} → Moves t s x y (start at) q → Counted q.pen n → past t s at ≤ 8 * reach s → length (spliced t s at) ≤ most
    → n ≡ length (bytes (spliced t s at))
needed-is t at {s} {x} {y} {q} {n} m k h l =
    let d = m.does (within-start t at s h l) in
    k.is (omega (arith, d.moved)) ∙ omega (arith, d.moved, length-bytes (spliced t s at))

pub renews-not : (t : Splice) (at : ℕ) {s x y entry : List ℕ} {q : Copier} {n : ℕ} → Moves t s x y (start at) q → Counted q.pen n → length entry < n → Renews t at s entry entry n
renews-not t at m k h = record { long = refl; counts = λ i j. needed-is t at m k i j; writes = λ i j l. absurd (omega arith); stays = λ i. refl }

pub renews-all : (t : Splice) (at : ℕ) {s x y entry middle exit : List ℕ} {q r : Copier} {n : ℕ} → Moves t s x y (start at) q → Counted q.pen n → n ≤ length entry
    → Moves t s entry middle (start at) r → Closes middle exit r.pen → Renews t at s entry exit n
renews-all t at {s} {x} {y} {entry} {middle} {exit} {q} {r} {n} m k h w c = record {
  long = c.long ∙ w.long;
  counts = λ i j. needed-is t at m k i j;
  writes = λ i j l. go i j;
  stays = λ i. absurd (omega arith);
}
  where
    go : past t s at ≤ 8 * reach s → length (spliced t s at) ≤ most → exit ≡ bytes (spliced t s at) ++ drop (length (bytes (spliced t s at))) entry
    go i j =
        let e = needed-is t at m k i j in
        let f = length-bytes (spliced t s at) in
        let d = w.does (within-start t at s i j) in
        pushes-whole (d.pushes (omega arith)) (c.whole (omega (arith, d.moved)) (omega (arith, d.moved, w.long)))
