-- Laws of decimal: the digits that code spells are the definition's, and they say the number.
use Rattle.std.specs.Prelude.{◌≡◌, refl, List, [], ◌∷◌, ◌++◌, ℕ, zero, suc, ◌+◌, ◌-◌, ◌*◌, ◌/◌, ◌%◌, ◌^◌, ◌≤◌, ◌<◌, length, take, get_or, ℤ, pos, negsuc}
use Rattle.std.proofs.Common.{sym, ap, ◌∙◌, append_assoc, append-nil, add-one, arith, lt-ltb, le-ltb, take-suc, SFits}
use Rattle.std.proofs.Math.Decide.{dec_lt}
use Rattle.std.specs.Int.{w64}
use Rattle.bits.specs.Twos.{to_twos}
use Rattle.std.specs.Fmt.{decimal as printed}
use Rattle.std.proofs.lemmas.Fmt.{decimal_by_steps}
use Rattle.layouts.specs.declared.Fault.{Fault}
use Rattle.layouts.specs.Faults.{number_of, returned_by}
use Rattle.model.specs.declared.Subject.{Subject}
use Rattle.model.specs.declared.Verdict.{Verdict}
use Rattle.model.specs.declared.Verdict.TheVariants.{Accepted, Refused}
use Rattle.model.specs.Batch.{framing}
use Rattle.wording.specs.Ascii.{ascii}
use Rattle.wording.specs.Decimal.{digit, decimal_within, decimal, signed}
use Rattle.wording.specs.Text.{space, newline, accepted_word, refused_word, framing_word, figures, word_line, answer_text, text}
use Rattle.wording.specs.Writes.{Writes, Puts}
use Rattle.wording.proofs.Writes.{behind, puts-as}
use Rattle.wording.specs.Spelling.{said}

-- however deep the definition goes, if it goes deep enough
within-same : (j k n : ℕ) → n < j → n < k → decimal_within j n ≡ decimal_within k n
unfolding decimal_within
within-same zero k n h l = absurd (omega arith)
within-same (suc j) zero n h l = absurd (omega arith)
within-same (suc j) (suc k) n h l = elim (dec_lt n 10) [
  | yes f ↦ rw (lt-ltb n 10 f) refl
  | no f ↦ rw (le-ltb n 10 (omega arith)) (ap (λ (ds : List ℕ). ds ++ (digit (n % 10) ∷ [])) (within-same j k (n / 10) (omega arith) (omega arith)))
]

one-digit : (n : ℕ) → n < 10 → digit n ∷ [] ≡ decimal n
unfolding decimal decimal_within
one-digit n h = rw (lt-ltb n 10 h) refl

last-digit : (n : ℕ) (ds : List ℕ) → 10 ≤ n → ds ≡ decimal (n / 10) → ds ++ (digit (n % 10) ∷ []) ≡ decimal n
unfolding decimal decimal_within
last-digit n ds h e = rw (le-ltb n 10 h) (ap (λ (l : List ℕ). l ++ (digit (n % 10) ∷ [])) (e ∙ within-same (suc (n / 10)) n (n / 10) (omega arith) (omega arith)))

-- what the library prints of a number is its digits in decimal
pub prints : (n : ℕ) → n < 2 ^ 64 → printed n ≡ decimal n
prints = decimal_by_steps (λ n ds. ds ≡ decimal n) one-digit last-digit

-- ---- numbers behind spaces
pub none_of : [] ≡ figures []
unfolding figures
none_of = refl

pub figures-more : (ns : List ℕ) (n : ℕ) → figures (ns ++ (n ∷ [])) ≡ figures ns ++ (space ++ decimal n)
unfolding figures
figures-more [] n = append-nil (space ++ decimal n)
figures-more (m ∷ ns) n = ap (λ (l : List ℕ). space ++ decimal m ++ l) (figures-more ns n) ∙ sym (append_assoc (space ++ decimal m) (figures ns) (space ++ decimal n))

module _ (ns : List ℕ) (i : ℕ) {a b c : List ℕ} {at m n : ℕ} (p : Puts (21 * i) (figures (take i ns)) a b at m) (q : Puts 21 (space ++ decimal (get_or ns i 0)) b c m n) where
  pub one_more : i < length ns → at + 21 * length ns ≤ length a → Puts (21 * (i + 1)) (figures (take (i + 1) ns)) a c at n
  one_more h l = puts-as same (omega arith) (behind p q (omega (arith, p.short)))
    where
      same : figures (take i ns) ++ (space ++ decimal (get_or ns i 0)) ≡ figures (take (i + 1) ns)
      same = sym (figures-more (take i ns) (get_or ns i 0)) ∙ ap figures (sym (take-suc ns i 0 h) ∙ ap (λ (k : ℕ). take k ns) (sym (add-one i)))

-- ---- a sign by two's complement
pub from_zero : (z : ℤ) {v : ℕ} → SFits w64 z → v ≡ to_twos 64 z → v < 2 ^ 63 → decimal v ≡ signed z
unfolding to_twos
from_zero (pos n) f e h = ap decimal e
from_zero (negsuc n) f e h = absurd (omega (arith, f.sfits))

pub below-zero : (z : ℤ) {v : ℕ} → SFits w64 z → v ≡ to_twos 64 z → 2 ^ 63 ≤ v → 45 ∷ decimal (2 ^ 64 - 1 - v + 1) ≡ signed z
unfolding to_twos
below-zero (pos n) f e h = absurd (omega (arith, f.sfits))
below-zero (negsuc n) {v} f e h = let m : 2 ^ 64 - 1 - v + 1 ≡ suc n = omega (arith, f.sfits) in ap (λ (k : ℕ). 45 ∷ decimal k) m

regroup : (x a s m d : List ℕ) → x ++ (a ++ s ++ m) ++ d ≡ x ++ a ++ s ++ (m ++ d)
regroup x a s m d = simp append_assoc

module _ (k n : ℕ) (z : ℤ) where
  pub accepted-from-zero : decimal n ≡ signed z → decimal k ++ ascii " accepted " ++ decimal n ++ newline ≡ answer_text k (Accepted z)
  accepted-from-zero e = ap (λ (l : List ℕ). l ++ newline) (regroup (decimal k) accepted_word space [] (decimal n) ∙ ap (λ (l : List ℕ). decimal k ++ accepted_word ++ space ++ l) e)

  pub accepted-below-zero : 45 ∷ decimal n ≡ signed z → decimal k ++ ascii " accepted -" ++ decimal n ++ newline ≡ answer_text k (Accepted z)
  accepted-below-zero e = ap (λ (l : List ℕ). l ++ newline) (regroup (decimal k) accepted_word space (45 ∷ []) (decimal n) ∙ ap (λ (l : List ℕ). decimal k ++ accepted_word ++ space ++ l) e)

-- ---- faults, and a verdict by its cases
pub framing-is : {n : ℕ} (f : Fault) → n ≡ number_of f → word_line framing_word (n ∷ []) ≡ text (framing (number_of f))
framing-is f e = ap (λ (n : ℕ). word_line framing_word (n ∷ [])) e

pub refused-is : {m n : ℕ} (k : ℕ) (s : Subject) (f : Fault) → m ≡ number_of f → n ≡ returned_by f → decimal k ++ word_line refused_word (m ∷ n ∷ []) ≡ answer_text k (Refused s f)
refused-is k s f e g = rw (e, g) refl

pub answered : (k : ℕ) {v w : Verdict} {a b : List ℕ} {n : ℕ} → v ≡ w → Writes (answer_text k w) a b n → Writes (answer_text k v) a b n
answered k e p = rw e p

said-last : (n : ℕ) (ds : List ℕ) (d : ℕ) → said n (ds ++ (d ∷ [])) ≡ said n ds * 10 + (d - 48)
unfolding said
said-last n [] d = refl
said-last n (x ∷ ds) d = said-last (n * 10 + (x - 48)) ds d

within-said : (k n : ℕ) → n < k → said 0 (decimal_within k n) ≡ n
unfolding said decimal_within
within-said zero n h = absurd (omega arith)
within-said (suc k) n h = elim (dec_lt n 10) [
  | yes l ↦ rw (lt-ltb n 10 l) (omega arith)
  | no l ↦ rw (le-ltb n 10 (omega arith)) (said-last 0 (decimal_within k (n / 10)) (digit (n % 10)) ∙ omega (arith, within-said k (n / 10) (omega arith)))
]

-- read back, a number's digits in decimal say it
pub read_back : (n : ℕ) → said 0 (decimal n) ≡ n
unfolding decimal
read_back n = within-said (suc n) n (omega arith)
