-- Which tests of a numbered list fail, as one word: bit n for number n.
use Rattle.std.specs.Prelude.{◌≡◌, refl, Bool, true, false, ◌&&◌, List, [], ◌∷◌, ◌++◌, ℕ, zero, suc, ◌+◌, ◌-◌, ◌*◌, ◌/◌, ◌%◌, ◌^◌, ◌≤◌, ◌<◌, T, leb, ltb, eqb}
use Rattle.std.proofs.Common.{sym, ap, ap₂, ◌∙◌, arith, le→leb, lt→ltb, pow-add, pow_mono, pow_pos}
use Rattle.std.proofs.Math.Decide.{dec_le}
use Rattle.std.proofs.Math.Dec.{leb→le, ltb→lt}
use Rattle.numbers.specs.Tests.{and_in, and_l, and_r}
use Rattle.bits.specs.Pick.{pick}
pub use Rattle.model.proofs.Named.{failing-append}
use Rattle.model.specs.Breaches.{failing, unless}

-- the bit of number n, where its test fails
abbrev pub bit_unless : Bool → ℕ → ℕ
bit_unless kept n = pick kept 0 (2 ^ n)

unfoldable pub failing_word : List (ℕ × Bool) → ℕ
failing_word [] = 0
failing_word (x ∷ ns) = bit_unless x.1 x.0 + failing_word ns

-- bits added in turn, each by the code's answer, which is the test's
pub one_bit : (n : ℕ) {x : ℕ} {kept test : Bool} → x ≡ bit_unless kept n → kept ≡ test → x ≡ failing_word ((n, test) ∷ [])
unfolding failing_word
one_bit n {test} e h = let z : bit_unless test n + 0 ≡ bit_unless test n = omega arith in e ∙ rw (h, z) refl

pub word-append : (xs ys : List (ℕ × Bool)) → failing_word (xs ++ ys) ≡ failing_word xs + failing_word ys
unfolding failing_word
word-append [] ys = omega arith
word-append (x ∷ xs) ys = omega (arith, word-append xs ys)

pub more-bits : (n : ℕ) (ns : List (ℕ × Bool)) {x y : ℕ} {kept test : Bool} → y ≡ failing_word ns → x ≡ bit_unless kept n → kept ≡ test → y + x ≡ failing_word (ns ++ ((n, test) ∷ []))
more-bits n ns {x} {test = test} f e h = omega (arith, word-append ns ((n, test) ∷ []), one_bit n {x = x} {test = test} e h)

-- each test of a list holds
pub no_test : failing [] ≡ []
unfolding failing
no_test = refl

pub test-holds : (n : ℕ) {b : Bool} (ns : List (ℕ × Bool)) → b ≡ true → failing ns ≡ [] → failing ((n, b) ∷ ns) ≡ []
unfolding failing
test-holds n ns e h = rw e h

pub all_hold : (xs ys : List (ℕ × Bool)) → failing xs ≡ [] → failing ys ≡ [] → failing (xs ++ ys) ≡ []
all_hold xs ys e h = failing-append xs ys ∙ rw (e, h) refl

-- and where none fails each holds
one-fails : {P : Type 0} (n : ℕ) (ns : List ℕ) → n ∷ ns ≡ [] → P
one-fails n ns e = absurd (let z : ◌≡◌ {A = ℕ} 0 1 = cc in omega (arith, z))

abbrev pub EachHeld : List (ℕ × Bool) → Type 0
EachHeld [] = Unit {0}
EachHeld (x ∷ ns) = (x.1 ≡ true) × EachHeld ns

pub each-held : (ns : List (ℕ × Bool)) → failing ns ≡ [] → EachHeld ns
unfolding failing
each-held [] e = tt
each-held (x ∷ ns) e = go x.1 (each-held ns) e
  where
    go : (b : Bool) → (failing ns ≡ [] → EachHeld ns) → unless b x.0 (failing ns) ≡ [] → (b ≡ true) × EachHeld ns
    go true f h = (refl, f h)
    go false f h = one-fails x.0 (failing ns) h

pub parts_held : (xs ys : List (ℕ × Bool)) → failing (xs ++ ys) ≡ [] → (failing xs ≡ []) × (failing ys ≡ [])
parts_held xs ys e = go (failing xs) (sym (failing-append xs ys) ∙ e)
  where
    go : (l : List ℕ) → l ++ failing ys ≡ [] → (l ≡ []) × (failing ys ≡ [])
    go [] h = (refl, h)
    go (n ∷ l) h = one-fails n (l ++ failing ys) h

-- ---- the numbers of a word's bits, from number k on, the word's lowest bit first; at most f of them
unfoldable pub bits_from : ℕ → ℕ → ℕ → List ℕ
bits_from k zero w = []
bits_from k (suc f) w = unless (eqb (w % 2) 0) k (bits_from (suc k) f (w / 2))

-- a word of 32 bits
unfoldable pub numbers_in : ℕ → List ℕ
numbers_in w = bits_from 0 32 w

-- the numbers rise, from k on and below n
unfoldable pub rising : ℕ → ℕ → List (ℕ × Bool) → Bool
rising k n [] = true
rising k n (x ∷ ns) = leb k x.0 && (ltb x.0 n && rising (suc x.0) n ns)

-- the word of a list, shifted down by k
unfoldable shifted : ℕ → List (ℕ × Bool) → ℕ
shifted k [] = 0
shifted k (x ∷ ns) = pick x.1 0 (2 ^ (x.0 - k)) + shifted k ns

shifted_none : (ns : List (ℕ × Bool)) → failing_word ns ≡ shifted 0 ns
unfolding failing_word shifted
shifted_none [] = refl
shifted_none (x ∷ ns) = let e : x.0 - 0 ≡ x.0 = omega arith in ap₂ (λ (a b : ℕ). a + b) (rw e refl) (shifted_none ns)

no_bits : (k f : ℕ) → bits_from k f 0 ≡ []
unfolding bits_from
no_bits k zero = refl
no_bits k (suc f) = no_bits (suc k) f

module _ (k n : ℕ) (x : ℕ × Bool) (ns : List (ℕ × Bool)) where
  abbrev inside : Bool
  inside = ltb x.0 n && rising (suc x.0) n ns

  from_low : T (rising k n (x ∷ ns)) → k ≤ x.0
  unfolding rising
  from_low h = leb→le k x.0 (and_l (leb k x.0) inside h)

  below : T (rising k n (x ∷ ns)) → x.0 < n
  unfolding rising
  below h = ltb→lt x.0 n (and_l (ltb x.0 n) (rising (suc x.0) n ns) (and_r (leb k x.0) inside h))

  others : T (rising k n (x ∷ ns)) → T (rising (suc x.0) n ns)
  unfolding rising
  others h = and_r (ltb x.0 n) (rising (suc x.0) n ns) (and_r (leb k x.0) inside h)

  -- from another number on
  anew : (j : ℕ) → j ≤ x.0 → T (rising k n (x ∷ ns)) → T (rising j n (x ∷ ns))
  unfolding rising
  anew j l h = and_in (leb j x.0) inside (le→leb j x.0 l) (and_r (leb k x.0) inside h)

-- a list that rises from a later number on
later : (k j n : ℕ) → j ≤ k → (ns : List (ℕ × Bool)) → T (rising k n ns) → T (rising j n ns)
unfolding rising
later k j n l [] h = tt
later k j n l (x ∷ ns) h = anew k n x ns j (omega (arith, from_low k n x ns h)) h

twice : (b : Bool) (k n : ℕ) → suc k ≤ n → pick b 0 (2 ^ (n - k)) ≡ 2 * pick b 0 (2 ^ (n - suc k))
twice true k n h = refl
twice false k n h = let e : n - k ≡ 1 + (n - suc k) = omega arith in rw e (pow-add 2 1 (n - suc k))

shift : (k n : ℕ) (ns : List (ℕ × Bool)) → T (rising (suc k) n ns) → shifted k ns ≡ 2 * shifted (suc k) ns
unfolding shifted
shift k n [] h = refl
shift k n (x ∷ ns) h =
    let l : suc k ≤ x.0 = from_low (suc k) n x ns h in
    let e : shifted k ns ≡ 2 * shifted (suc k) ns = shift k n ns (later (suc x.0) (suc k) n (omega arith) ns (others (suc k) n x ns h)) in
    omega (arith, twice x.1 k x.0 l, e)

-- one step of reading the bits, where the lowest is clear, and where it is that of a test
clear : (k f w : ℕ) → bits_from k (suc f) (2 * w) ≡ bits_from (suc k) f w
unfolding bits_from
clear k f w = let e : (2 * w) % 2 ≡ 0 = omega arith in let h : (2 * w) / 2 ≡ w = omega arith in rw (e, h) refl

lowest : (k f : ℕ) (b : Bool) (w : ℕ) → bits_from k (suc f) (pick b 0 1 + 2 * w) ≡ unless b k (bits_from (suc k) f w)
unfolding bits_from
lowest k f true w = let e : (0 + 2 * w) % 2 ≡ 0 = omega arith in let h : (0 + 2 * w) / 2 ≡ w = omega arith in rw (e, h) refl
lowest k f false w = let e : (1 + 2 * w) % 2 ≡ 1 = omega arith in let h : (1 + 2 * w) / 2 ≡ w = omega arith in rw (e, h) refl

bits_are : (k f : ℕ) (ns : List (ℕ × Bool)) → T (rising k (k + f) ns) → bits_from k f (shifted k ns) ≡ failing ns
unfolding shifted failing
bits_are k f [] h = no_bits k f
bits_are k zero (x ∷ ns) h = absurd (omega (arith, from_low k (k + 0) x ns h, below k (k + 0) x ns h))
bits_are k (suc f) (x ∷ ns) h = go (bits_are (suc k) f ns) (bits_are (suc k) f (x ∷ ns)) (dec_le x.0 k)
  where
    low : k ≤ x.0
    low = from_low k (k + suc f) x ns h

    more : k + suc f ≡ suc k + f
    more = omega arith

    go : (T (rising (suc k) (suc k + f) ns) → bits_from (suc k) f (shifted (suc k) ns) ≡ failing ns)
        → (T (rising (suc k) (suc k + f) (x ∷ ns)) → bits_from (suc k) f (shifted (suc k) (x ∷ ns)) ≡ unless x.1 x.0 (failing ns))
        → Dec (x.0 ≤ k) → bits_from k (suc f) (shifted k (x ∷ ns)) ≡ unless x.1 x.0 (failing ns)
    go here there (yes l) =
        let e : x.0 ≡ k = omega (arith, low) in
        let z : x.0 - k ≡ 0 = omega arith in
        let o : T (rising (suc k) (k + suc f) ns) = later (suc x.0) (suc k) (k + suc f) (omega arith) ns (others k (k + suc f) x ns h) in
        let r : T (rising (suc k) (suc k + f) ns) = rw (← more) o in
        rw (z, shift k (suc k + f) ns r) (lowest k f x.1 (shifted (suc k) ns) ∙ rw (here r, e) refl)
    go here there (no l) =
        let o : T (rising (suc k) (k + suc f) (x ∷ ns)) = anew k (k + suc f) x ns (suc k) (omega arith) h in
        let r : T (rising (suc k) (suc k + f) (x ∷ ns)) = rw (← more) o in
        rw (shift k (suc k + f) (x ∷ ns) r) (clear k f (shifted (suc k) (x ∷ ns)) ∙ there r)

-- the bits of the word are the numbers of the failing tests
pub word-bits : (ns : List (ℕ × Bool)) → T (rising 0 32 ns) → numbers_in (failing_word ns) ≡ failing ns
unfolding numbers_in
word-bits ns h = rw (shifted_none ns) (bits_are 0 32 ns h)

-- ---- one list behind another

-- below a larger number
wider : (k m n : ℕ) → m ≤ n → (ns : List (ℕ × Bool)) → T (rising k m ns) → T (rising k n ns)
unfolding rising
wider k m n l [] h = tt
wider k m n l (x ∷ ns) h =
    and_in (leb k x.0) (ltb x.0 n && rising (suc x.0) n ns) (le→leb k x.0 (from_low k m x ns h))
    (and_in (ltb x.0 n) (rising (suc x.0) n ns) (lt→ltb x.0 n (omega (arith, below k m x ns h))) (wider (suc x.0) m n l ns (others k m x ns h)))

rising-append : (k m n : ℕ) → k ≤ m → m ≤ n → (xs ys : List (ℕ × Bool)) → T (rising k m xs) → T (rising m n ys) → T (rising k n (xs ++ ys))
unfolding rising
rising-append k m n l g [] ys h i = later m k n l ys i
rising-append k m n l g (x ∷ xs) ys h i =
    and_in (leb k x.0) (ltb x.0 n && rising (suc x.0) n (xs ++ ys)) (le→leb k x.0 (from_low k m x xs h))
    (and_in (ltb x.0 n) (rising (suc x.0) n (xs ++ ys)) (lt→ltb x.0 n (omega (arith, below k m x xs h)))
    (rising-append (suc x.0) m n (below k m x xs h) g xs ys (others k m x xs h) i))

-- the bits of both words together, where the second list's numbers follow the first's
pub both_bits : (m n : ℕ) (xs ys : List (ℕ × Bool)) → m ≤ n → n ≤ 32 → T (rising 0 m xs) → T (rising m n ys) → numbers_in (failing_word xs + failing_word ys) ≡ failing (xs ++ ys)
both_bits m n xs ys l g h i = rw (← word-append xs ys) (word-bits (xs ++ ys) (wider 0 n 32 g (xs ++ ys) (rising-append 0 m n (omega arith) l xs ys h i)))

-- ---- the size of a word

bit-small : (b : Bool) (n : ℕ) → bit_unless b n ≤ 2 ^ n
bit-small true n = omega arith
bit-small false n = omega arith

word_room : (k n : ℕ) (ns : List (ℕ × Bool)) → k ≤ n → T (rising k n ns) → failing_word ns + 2 ^ k ≤ 2 ^ n
unfolding failing_word
word_room k n [] l h = omega (arith, pow_mono l)
word_room k n (x ∷ ns) l h =
    let low : k ≤ x.0 = from_low k n x ns h in
    let more : suc x.0 ≤ n = below k n x ns h in
    let next : suc x.0 ≡ 1 + x.0 = omega arith in
    let twofold : 2 ^ suc x.0 ≡ 2 * 2 ^ x.0 = rw next (pow-add 2 1 x.0) in
    omega (arith, word_room (suc x.0) n ns more (others k n x ns h), bit-small x.1 x.0, pow_mono low)

-- that of a list whose numbers stay below n
pub word_below : (k n : ℕ) (ns : List (ℕ × Bool)) → k ≤ n → T (rising k n ns) → failing_word ns < 2 ^ n
word_below k n ns l h = omega (arith, word_room k n ns l h, pow_pos k)

-- a word without bits: no test fails
pub word_none : (ns : List (ℕ × Bool)) → failing_word ns ≡ 0 → failing ns ≡ []
unfolding failing_word failing
word_none [] e = refl
word_none (x ∷ ns) e = go x.1 (word_none ns) e
  where
    go : (b : Bool) → (failing_word ns ≡ 0 → failing ns ≡ []) → bit_unless b x.0 + failing_word ns ≡ 0 → unless b x.0 (failing ns) ≡ []
    go true f z = f (omega arith)
    go false f z = absurd (omega (arith, pow_pos x.0))

pub none-word : (ns : List (ℕ × Bool)) → failing ns ≡ [] → failing_word ns ≡ 0
unfolding failing_word failing
none-word [] e = refl
none-word (x ∷ ns) e = go x.1 (none-word ns) e
  where
    go : (b : Bool) → (failing ns ≡ [] → failing_word ns ≡ 0) → unless b x.0 (failing ns) ≡ [] → bit_unless b x.0 + failing_word ns ≡ 0
    go true f h = omega (arith, f h)
    go false f h = one-fails x.0 (failing ns) h
