-- Whole bytes behind whole bytes; a word's bytes; pending bits joined and split.
use mathlib.Core.Path.{◌≡◌, refl, sym, ◌∙◌, ap, subst}
use mathlib.Core.List.{List, ◌++◌, append_assoc}
use Prim.Native.Nat.{ℕ, ◌+◌, ◌-◌, ◌*◌, ◌/◌, ◌%◌, ◌^◌, ◌≤◌, ◌<◌}
use native.Mathlib.Omega.{arith}
use native.Mathlib.Nat.{mul-one, mod-lt}
use Rattle.bits.proofs.Laws.{one_shl}
use lib.Arith.{digits_lt}
use lib.Bits.{bit_and, and_mask}
use lib.ListN.{length, take, drop, length-append, length-drop, take-append-drop}
use lib.Pow.{pow-add, pow_mono, pow_pos, shl_exact, shr_lt, split}
use lib.Seq.{drop-drop, length-take-le}
use mir.Syntax.{w64}
use borrow.Rule.Slice.PartMut.{put_mid}
use Rattle.std.specs.Int.{to_be_bytes}
use Rattle.numbers.specs.Every.{all_append}
use Rattle.layouts.specs.Layout.{bits_of, bytes}
use Rattle.layouts.specs.Trip.{length-bits, length-bytes, bits_small}
use Rattle.pen.specs.Stored.{stored}
use Rattle.pen.proofs.Bytes.{num-bits, digits, stored-digits, bytes-digits, bytes-append}
use Rattle.pen.proofs.Stores.{length-stored}
use Rattle.pen.proofs.Stores.{joined}
use Rattle.pen.specs.declared.Pen.{Pen}
use Rattle.pen.specs.Pens.{Ready, Penned, Pushes, Finishes}

-- a number's bytes behind whole bytes of a message
pub behind : (before front : List ℕ) (at w v m t : ℕ) → length front ≡ 8 * at → v < 2 ^ w → w + t ≡ 8 * m → t < 8 → at + m ≤ length before
    → stored (bytes front ++ drop at before) at m (v * 2 ^ t) ≡ bytes (front ++ bits_of w v) ++ drop (at + m) before
behind before front at w v m t lf small e lt room =
    let lp : length (bytes front) ≡ at = (let l = length-bytes front in omega arith) in
    let d : bytes (bits_of w v) ≡ digits m (v * 2 ^ t) =
    bytes-digits (bits_of w v) m t (bits_small w v) (let z = length-bits w v in omega arith) lt ∙ ap (λ (y : ℕ). digits m (y * 2 ^ t)) (num-bits w v small) in
    let f : drop m (drop at before) ≡ drop (at + m) before = drop-drop m at before in
    ap (λ (y : ℕ). stored (bytes front ++ drop at before) y m (v * 2 ^ t)) (sym lp)
    ∙ (stored-digits (bytes front) (drop at before) m (v * 2 ^ t) (simp length-drop (omega arith))
    ∙ rw (sym d, f, bytes-append at front (bits_of w v) lf) (sym (append_assoc (bytes front) (bytes (bits_of w v)) (drop (at + m) before))))

-- the eight bytes of a word, highest first
word-digits : (v : ℕ) → digits 8 v ≡ to_be_bytes w64 v
unfolding digits
word-digits v =
    let a : v / 256 / 256 ≡ v / 65536 = omega arith in
    let b : v / 65536 / 256 ≡ v / 16777216 = omega arith in
    let c : v / 16777216 / 256 ≡ v / 4294967296 = omega arith in
    let d : v / 4294967296 / 256 ≡ v / 1099511627776 = omega arith in
    let e : v / 1099511627776 / 256 ≡ v / 281474976710656 = omega arith in
    let f : v / 281474976710656 / 256 ≡ v / 72057594037927936 = omega arith in
    rw (a, b, c, d, e, f) refl

-- a word written over eight bytes
pub word-stored : (l part : List ℕ) (j n v : ℕ) → n ≡ 8 → j + 8 ≤ length l → part ≡ to_be_bytes w64 v → put_mid j n l part ≡ stored l j 8 v
word-stored l part j n v e h d =
    let lt : length (take j l) ≡ j = length-take-le j l (omega arith) in
    let t : take j l ++ drop j l ≡ l = take-append-drop j l in
    let s : stored (take j l ++ drop j l) (length (take j l)) 8 v ≡ take j l ++ (digits 8 v ++ drop 8 (drop j l)) = stored-digits (take j l) (drop j l) 8 v (simp length-drop (omega arith)) in
    let w : part ≡ digits 8 v = d ∙ sym (word-digits v) in
    rw (e, w) (sym s ∙ rw (t, lt) refl)

length-penned : {before after : List ℕ} {p : Pen} {bits : List ℕ} → Penned before after p bits → length after ≡ length before
length-penned W = ap length W.wrote ∙ simp (length-append, length-drop) (let l = length-bytes W.front in let r = W.room in let h = W.whole in omega arith)

-- a number of n bits with w behind it
both-lt : (n w a v : ℕ) → a < 2 ^ n → v < 2 ^ w → a * 2 ^ w + v < 2 ^ (n + w)
both-lt n w a v h k = subst (λ (m : ℕ). a * 2 ^ w + v < m) (sym (pow-add 2 n w)) (digits_lt h k)

-- a field that leaves fewer than 64 bits pending
module _ (p : Pen) (w v : ℕ) (ok : Ready p) (small : v < 2 ^ w) (less : p.n + w < 64) where
  shifted : p.acc * 2 ^ w % 2 ^ 64 ≡ p.acc * 2 ^ w
  shifted = shl_exact {a = p.acc} p.n w 64 ok.small (omega arith)

  pub stay-sum : p.acc * 2 ^ w % 2 ^ 64 + v < 2 ^ 64
  stay-sum = rw shifted (omega (arith, both-lt p.n w p.acc v ok.small small, pow_mono {i = p.n + w} {j = 64} (omega arith)))

  pub stays : (buf : List ℕ) → Pushes w (bits_of w v) buf buf p (record { acc = p.acc * 2 ^ w % 2 ^ 64 + v; n = p.n + w; at = p.at })
  stays buf = rw shifted (record {
    wide = length-bits w v;
    ready = record { few = less; small = both-lt p.n w p.acc v ok.small small };
    moved = omega arith;
    long = refl;
    more = λ before front W. record {
      front = W.front;
      is = ap (λ (l : List ℕ). l ++ bits_of w v) W.is ∙ (append_assoc W.front (bits_of p.n p.acc) (bits_of w v) ∙ ap (λ (l : List ℕ). W.front ++ l) (sym (joined p.n w p.acc v small)));
      whole = W.whole;
      binary = W.binary;
      wrote = W.wrote;
      room = W.room;
    };
  })

-- a field that fills the word
module _ (p : Pen) (w v : ℕ) (ok : Ready p) (few : w ≤ 56) (small : v < 2 ^ w) (full : 64 ≤ p.n + w) where
  abbrev rest : ℕ
  rest = p.n + w - 64

  abbrev word : ℕ
  word = p.acc * 2 ^ (w - rest) + v / 2 ^ rest

  high_lt : v / 2 ^ rest < 2 ^ (w - rest)
  high_lt = let e : w - rest + rest ≡ w = omega (arith, ok.few) in shr_lt {n = v} (w - rest) rest (subst (λ (k : ℕ). v < 2 ^ k) (sym e) small)

  word_wide : p.n + (w - rest) ≡ 64
  word_wide = omega (arith, ok.few)

  word_lt : word < 2 ^ 64
  word_lt = subst (λ (k : ℕ). word < 2 ^ k) word_wide (both-lt p.n (w - rest) p.acc (v / 2 ^ rest) ok.small high_lt)

  word-shifted : p.acc * 2 ^ (w - rest) % 2 ^ 64 ≡ p.acc * 2 ^ (w - rest)
  word-shifted = shl_exact {a = p.acc} p.n (w - rest) 64 ok.small (omega (arith, word_wide))

  pub word_sum : p.acc * 2 ^ (w - rest) % 2 ^ 64 + v / 2 ^ rest < 2 ^ 64
  word_sum = rw word-shifted word_lt

  pub mask : 1 ≤ 1 * 2 ^ rest % 2 ^ 64
  mask = rw (one_shl rest (omega (arith, ok.few))) (pow_pos rest)

  masked : bit_and v (1 * 2 ^ rest % 2 ^ 64 - 1) ≡ v % 2 ^ rest
  masked = rw (one_shl rest (omega (arith, ok.few)), and_mask v rest) refl

  word-bits : bits_of p.n p.acc ++ bits_of w v ≡ bits_of 64 word ++ bits_of rest (v % 2 ^ rest)
  word-bits =
      let low-lt : v % 2 ^ rest < 2 ^ rest = mod-lt v (pow_pos rest) in
      let e : w - rest + rest ≡ w = omega (arith, ok.few) in
      let a : bits_of w v ≡ bits_of (w - rest) (v / 2 ^ rest) ++ bits_of rest (v % 2 ^ rest) =
      sym (subst (λ (k : ℕ). bits_of k v ≡ bits_of w v) (sym e) refl) ∙ (ap (bits_of (w - rest + rest)) (sym (split v rest)) ∙ joined (w - rest) rest (v / 2 ^ rest) (v % 2 ^ rest) low-lt) in
      let b : bits_of 64 word ≡ bits_of p.n p.acc ++ bits_of (w - rest) (v / 2 ^ rest) =
      ap (λ (k : ℕ). bits_of k word) (sym word_wide) ∙ joined p.n (w - rest) p.acc (v / 2 ^ rest) high_lt in
      rw (a, b) (sym (append_assoc (bits_of p.n p.acc) (bits_of (w - rest) (v / 2 ^ rest)) (bits_of rest (v % 2 ^ rest))))

  pub fills : (entry exit : List ℕ) → 8 * p.at + p.n + w ≤ 8 * length entry → exit ≡ stored entry p.at 8 (p.acc * 2 ^ (w - rest) % 2 ^ 64 + v / 2 ^ rest)
      → Pushes w (bits_of w v) entry exit p (record { acc = bit_and v (1 * 2 ^ rest % 2 ^ 64 - 1); n = rest; at = p.at + 8 })
  fills entry exit room e =
      let x : exit ≡ stored entry p.at 8 word = e ∙ ap (λ (k : ℕ). stored entry p.at 8 (k + v / 2 ^ rest)) word-shifted in
      rw masked (record {
        wide = length-bits w v;
        ready = record { few = omega (arith, ok.few); small = mod-lt v (pow_pos rest) };
        moved = omega (arith, ok.few);
        long = ap length x ∙ length-stored entry p.at 8 word;
        more = λ before front W.
            let long : length entry ≡ length before = length-penned W in
            record {
              front = W.front ++ bits_of 64 word;
              is = ap (λ (l : List ℕ). l ++ bits_of w v) W.is ∙ (append_assoc W.front (bits_of p.n p.acc) (bits_of w v)
                  ∙ (ap (λ (l : List ℕ). W.front ++ l) word-bits ∙ sym (append_assoc W.front (bits_of 64 word) (bits_of rest (v % 2 ^ rest)))));
              whole = length-append W.front (bits_of 64 word) ∙ omega (arith, W.whole, length-bits 64 word);
              binary = all_append (λ b. b < 2) W.front (bits_of 64 word) W.binary (bits_small 64 word);
              wrote = x ∙ (ap (λ (l : List ℕ). stored l p.at 8 word) W.wrote ∙ (ap (λ (k : ℕ). stored (bytes W.front ++ drop p.at before) p.at 8 k) (sym (mul-one word))
                  ∙ behind before W.front p.at 64 word 8 0 W.whole word_lt refl (omega arith) (omega arith)));
              room = omega arith;
            };
      })

-- the end of a message
pub ends : (p : Pen) (entry exit : List ℕ) → Ready p → 8 * p.at + p.n ≤ 8 * length entry
    → exit ≡ stored entry p.at (p.at + (p.n + 7) / 8 - p.at) (p.acc * 2 ^ ((p.n + 7) / 8 * 8 - p.n) % 2 ^ 64) → Finishes entry exit p
ends p entry exit ok room e =
    let m = (p.n + 7) / 8 in
    let t = (p.n + 7) / 8 * 8 - p.n in
    let s : p.acc * 2 ^ t % 2 ^ 64 ≡ p.acc * 2 ^ t = shl_exact {a = p.acc} p.n t 64 ok.small (omega (arith, ok.few)) in
    let d : p.at + m - p.at ≡ m = omega arith in
    let x : exit ≡ stored entry p.at m (p.acc * 2 ^ t) = e ∙ (ap (λ (k : ℕ). stored entry p.at k (p.acc * 2 ^ t % 2 ^ 64)) d ∙ ap (λ (k : ℕ). stored entry p.at m k) s) in
    record {
      long = ap length x ∙ length-stored entry p.at m (p.acc * 2 ^ t);
      whole = λ before bits W.
          let long : length entry ≡ length before = length-penned W in
          let all = W.front ++ bits_of p.n p.acc in
          let n : p.at + m ≡ length (bytes bits) = rw W.is (omega (arith, length-bytes all, length-append W.front (bits_of p.n p.acc), length-bits p.n p.acc, W.whole)) in
          x ∙ (ap (λ (l : List ℕ). stored l p.at m (p.acc * 2 ^ t)) W.wrote
          ∙ (behind before W.front p.at p.n p.acc m t W.whole ok.small (omega arith) (omega arith) (omega arith)
          ∙ (ap (λ (l : List ℕ). bytes l ++ drop (p.at + m) before) (sym W.is) ∙ ap (λ (k : ℕ). bytes bits ++ drop k before) n)));
    }
