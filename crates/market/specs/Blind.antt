-- The market cannot learn a price: pairs that differ in prices and costs only give the same copy and the same refusals.
use Rattle.std.specs.Prelude.{◌≡◌, refl, List, ℕ, take, drop}
use Rattle.std.proofs.Math.Path.{sym, ap}
use Rattle.std.proofs.Common.{◌∙◌}
use Rattle.layouts.specs.Layout.{Whole, passes}
use Rattle.model.specs.Case.{System, Plan}
use Rattle.model.specs.Editions.{Largest}
use Rattle.model.specs.ByEdition.{Stated, stated_in}
use Rattle.model.specs.Judgement.{read_plan}
use Rattle.market.specs.declared.Copying.TheVariants.{Copied}
use Rattle.market.specs.Copy.{Copies, with_plan, with_case, market_copy}
use Rattle.market.specs.Prices.{SameQuantities}

-- the answer, and the copy's bytes where there is one
pub record SameCopy (a b : Copies) (before other : List ℕ) : Type 0 where
  pub answer : a.answer ≡ b.answer
  pub bytes : (n : ℕ) → a.answer ≡ Copied n → take n a.result ≡ take n b.result
  pub rest : (n : ℕ) → a.answer ≡ Copied n → (drop n a.result ≡ drop n before) × (drop n b.result ≡ drop n other)

-- ---- the theorem, over bytes

-- cases that pass reading and differ in prices and costs only, plans that hold the same or are refused alike, and one buffer: the same answer and the same buffer
pub blind : (l : Largest) (cs ds ps rs before : List ℕ) (x y : Stated) → stated_in l cs ≡ passes x → stated_in l ds ≡ passes y → SameQuantities x y
    → read_plan x ps ≡ read_plan y rs → market_copy l cs ps before ≡ market_copy l ds rs before
unfolding market_copy
blind l cs ds ps rs before x y h k s e = ap (with_case ps before) h ∙ alike-with s.edition s.system e ∙ sym (ap (with_case rs before) k)
  where
    alike-with : {d e : ℕ} {q r : System} {a b : Whole Plan} → d ≡ e → q ≡ r → a ≡ b → with_plan d q before a ≡ with_plan e r before b
    alike-with i j g = rw (i, j, g) refl
