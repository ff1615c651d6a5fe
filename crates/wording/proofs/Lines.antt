-- No line written, and one.
use Rattle.std.specs.Prelude.{◌≡◌, refl, List, [], ◌∷◌, ◌++◌, ℕ}
use Rattle.std.proofs.Common.{sym, ap, ◌∙◌, append-nil, arith}
use Rattle.model.specs.Batch.{Line}
use Rattle.wording.specs.Text.{text, texts}
use Rattle.wording.specs.Writes.{Writes}

pub no-line : (a : List ℕ) → Writes (texts []) a a 0
unfolding texts
no-line a = record { count = refl; short = omega arith; bytes = refl }

pub one_line : {l m : Line} {a b : List ℕ} {n : ℕ} → l ≡ m → Writes (text l) a b n → Writes (texts (m ∷ [])) a b n
unfolding texts
one_line {l} {m} e w = let f : text l ≡ text m ++ [] = ap text e ∙ sym (append-nil (text m)) in rw f at w
