-- What asking for the market's copy gives back, on messages: refusals and the first broken rule as a judgement's, 7 exactly where the buffer is short, and
-- bytes that a market reader reads back as the copy.
use Rattle.std.specs.Prelude.{◌≡◌, ◌↔◌, List, ℕ, ◌<◌, take, drop}
use Rattle.std.proofs.Math.ListN.{length}
use Rattle.layouts.specs.declared.Fault.{Fault}
use Rattle.layouts.specs.declared.Fault.TheVariants.{TooShort}
use Rattle.layouts.specs.Layout.{passes, fails, read_whole}
use Rattle.model.specs.declared.Breach.{Breach}
use Rattle.model.specs.declared.Subject.{Subject}
use Rattle.model.specs.declared.Subject.TheVariants as S
use Rattle.model.specs.declared.Verdict.TheVariants as Y
use Rattle.model.specs.Case.{Plan, Case}
use Rattle.model.specs.Editions.{Largest}
use Rattle.model.specs.ByEdition.{Stated, stated_in}
use Rattle.model.specs.Ours.{ours}
use Rattle.model.specs.Judgement.{written, our_surplus, read_plan, verdict}
use Rattle.market.specs.declared.Copying.TheVariants.{Copied, Broken, Refused}
use Rattle.market.specs.Copy.{shown, copy_in, copy_bytes, Copies, market_copy}
use Rattle.market.specs.Prices.{SameQuantities}
use Rattle.market.specs.Blind.{SameCopy, blind}

-- ---- what is promised

-- a pair that passes reading
pub record PairCopied (x : Stated) (p : Plan) (before : List ℕ) (j : Copies) : Type 0 where
  -- broken exactly where the judgement is, with its place, whatever buffer the judgement has; no byte is touched
  pub broken : (b : Breach) (room : ℕ) → (verdict x p room ≡ Y.Broken b) ↔ (j.answer ≡ Broken b)
  pub untouched : (b : Breach) → j.answer ≡ Broken b → j.result ≡ before
  -- copied: so many bytes, which read back as our completion less startup states, block powers and surplus; the rest of the buffer stays
  pub shows : (n : ℕ) → j.answer ≡ Copied n → read_whole (copy_in x.edition x.case.system) (take n j.result) ≡ passes (shown (written x.case.system (ours
      x.case p) (our_surplus x.case p)))
  pub rest : (n : ℕ) → j.answer ≡ Copied n → drop n j.result ≡ drop n before
  -- "A short buffer gets 7": with the copy's own length, exactly where it does not fit
  pub short : (s : Subject) (f : Fault) → j.answer ≡ Refused s f
      → (s ≡ S.Result) × (f ≡ TooShort (length (copy_bytes x.edition x.case.system p))) × (length before < length (copy_bytes x.edition x.case.system p)) × (j.result ≡ before)

-- `j` is the answer and the buffer as it is left
pub record MarketPromise (l : Largest) (cs ps before : List ℕ) (j : Copies) : Type 0 where
  -- "refused as judging is": the case, then the plan, by number and place; no byte is touched
  pub case-refused : (f : Fault) → stated_in l cs ≡ fails f → (j.answer ≡ Refused S.Case f) × (j.result ≡ before)
  pub plan-refused : (x : Stated) (f : Fault) → stated_in l cs ≡ passes x → read_plan x ps ≡ fails f → (j.answer ≡ Refused S.Plan f) × (j.result ≡ before)
  pub copies : (x : Stated) (p : Plan) → stated_in l cs ≡ passes x → read_plan x ps ≡ passes p → PairCopied x p before j
  -- "differ in prices and costs only, at will": a case of the same quantities, with a plan that is read alike, gives this answer and this buffer, refusals included
  pub blind : (ds rs : List ℕ) (x y : Stated) → stated_in l cs ≡ passes x → stated_in l ds ≡ passes y → SameQuantities x y → read_plan x ps ≡ read_plan y rs → j ≡ market_copy l ds rs before
  -- and in another buffer of one length the same answer and the same copy
  pub elsewhere : (ds rs other : List ℕ) (x y : Stated) (p : Plan) → stated_in l cs ≡ passes x → stated_in l ds ≡ passes y → SameQuantities x y → read_plan x ps ≡ passes p → read_plan y rs ≡ passes p
      → length before ≡ length other → SameCopy j (market_copy l ds rs other) before other
