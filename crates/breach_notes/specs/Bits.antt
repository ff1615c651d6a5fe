-- The breaches of a word's bits, from its lowest on, and the loop that notes them.
use Rattle.std.specs.Prelude.{◌≡◌, refl, Bool, List, [], ◌++◌, map, ℕ, suc, ◌+◌, ◌-◌, ◌/◌, ◌%◌, ◌≤◌, ◌<◌, eqb, length}
use Rattle.std.proofs.Common.{ap, arith, eq-eqb, ne_eqb, length-append}
use Rattle.std.proofs.Math.Decide.{dec_le}
use Rattle.model.specs.declared.Breach.{Breach}
use Rattle.model.specs.Rules.{cell_breach, link_breach, window_breach}
use Rattle.model.specs.Editions.{most_devices, most_intervals, most_windows}
use Rattle.cell_bounds.specs.Word.{bits_from, numbers_in}
use Rattle.breach_entries.specs.Noted.{note_if, Notes, NotesLeft, left-start, left-part, left-done, InBytes}

-- of the bits from number k on
unfoldable pub bit_breaches : (t i k rest : ℕ) → List Breach
bit_breaches t i k rest = map (cell_breach t i) (bits_from k (32 - k) rest)

unfoldable pub word_breaches : (t i word : ℕ) → List Breach
word_breaches t i word = map (cell_breach t i) (numbers_in word)

pub bits-all : (t i word : ℕ) → word_breaches t i word ≡ bit_breaches t i 0 word
unfolding word_breaches bit_breaches numbers_in
bits-all t i word = refl

-- the lowest, then the others
pub bits-next : (t i k rest : ℕ) → k < 32 → {b : Bool} → b ≡ eqb (rest % 2) 1 → bit_breaches t i k rest ≡ note_if b (cell_breach t i k) ++ bit_breaches t i (k + 1) (rest / 2)
unfolding bit_breaches bits_from
bits-next t i k rest h {b} e =
    let n : 32 - k ≡ suc (32 - (k + 1)) = omega arith in
    let s : suc k ≡ k + 1 = omega arith in
    go n s (dec_le 1 (rest % 2))
  where
    go : 32 - k ≡ suc (32 - (k + 1)) → suc k ≡ k + 1 → Dec (1 ≤ rest % 2)
        → map (cell_breach t i) (bits_from k (32 - k) rest) ≡ note_if b (cell_breach t i k) ++ map (cell_breach t i) (bits_from (k + 1) (32 - (k + 1)) (rest / 2))
    go n s (yes x) = rw (n, s, e, ne_eqb (rest % 2) 0 (λ y. omega arith), eq-eqb (rest % 2) 1 (omega arith)) refl
    go n s (no x) = rw (n, s, e, eq-eqb (rest % 2) 0 (omega arith), ne_eqb (rest % 2) 1 (λ y. omega arith)) refl

pub bits_none : (t i k rest : ℕ) → 32 ≤ k → bit_breaches t i k rest ≡ []
unfolding bit_breaches bits_from
bits_none t i k rest h = let z : 32 - k ≡ 0 = omega arith in rw z refl

-- ---- the loop over a word's bits

module _ (t i word k₀ : ℕ) (before : List ℕ) where
  -- those from number k on are left
  pub record WordLeft (k rest n : ℕ) (list : List ℕ) : Type 0 where
    pub left : NotesLeft (word_breaches t i word) k₀ before (bit_breaches t i k rest) n list

  pub word-start : WordLeft 0 word k₀ before
  word-start = record { left = rw (← bits-all t i word) (left-start (word_breaches t i word) k₀ before) }

  module _ {k rest n : ℕ} {list : List ℕ} (g : WordLeft k rest n list) where
    module _ (h : k < 32) {b : Bool} (e : b ≡ eqb (rest % 2) 1) {x : Breach} (is : x ≡ cell_breach t i k) where
      pub word_room : {most : ℕ} → k₀ + length (word_breaches t i word) ≤ most → n + length (note_if b x) ≤ most
      word_room l = rw is (omega (
        arith,
        g.left.count,
        ap length (bits-next t i k rest h e),
        length-append (note_if b (cell_breach t i k)) (bit_breaches t i (k + 1) (rest / 2)),
      ))

      pub word_next : {after : List ℕ} {r : ℕ} → Notes n (note_if b x) list after r → WordLeft (k + 1) (rest / 2) r after
      word_next m = record { left = left-part (note_if b x) (bit_breaches t i (k + 1) (rest / 2)) (rw is (bits-next t i k rest h e)) g.left m }

    pub word-done : 32 ≤ k → Notes k₀ (word_breaches t i word) before list n
    word-done h = left-done (bits_none t i k rest h) g.left

-- ---- each field fits its byte

pub cell-bytes : {t i k : ℕ} {x : Breach} → t < most_intervals → i < most_devices → k < 32 → x ≡ cell_breach t i k → InBytes x
cell-bytes h l m e = rw e (record { rule = omega arith; interval = omega arith; device = omega arith; window = omega arith })

pub window_bytes : {i w : ℕ} {x : Breach} → i < most_devices → w < most_windows → x ≡ window_breach i w 20 → InBytes x
window_bytes h l e = rw e (record { rule = omega arith; interval = omega arith; device = omega arith; window = omega arith })

pub link-bytes : {t : ℕ} {x : Breach} → t < most_intervals → x ≡ link_breach t 27 → InBytes x
link-bytes h e = rw e (record { rule = omega arith; interval = omega arith; device = omega arith; window = omega arith })
