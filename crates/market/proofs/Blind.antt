-- The market cannot learn a price: pairs that differ in prices and costs only give the same copy and the same refusals.
use Rattle.std.specs.Prelude.{◌≡◌, refl, Bool, true, false, List, [], ◌∷◌, ◌++◌, ℕ, length, take, drop, leb, ℤ}
use Rattle.std.proofs.Math.Path.{sym, ap}
use Rattle.std.proofs.Common.{◌∙◌, take_at, drop_at, arith}
use Rattle.std.proofs.lemmas.Simd.{map-map}
use Rattle.bits.specs.Pick.{pick}
use Rattle.layouts.specs.declared.Fault.TheVariants.{TooShort}
use Rattle.model.specs.declared.Subject.TheVariants as S
use Rattle.layouts.specs.Layout.{passes}
use Rattle.model.specs.declared.Breach.{Breach}
use Rattle.model.specs.Case.{System, Plan, Case}
use Rattle.model.specs.Breaches.{breaches}
use Rattle.model.specs.Editions.{Largest}
use Rattle.model.specs.ByEdition.{Stated, stated_in}
use Rattle.model.specs.Ours.{ours}
use Rattle.model.specs.Judgement.{written, read_plan}
use Rattle.market.specs.declared.Copying.TheVariants.{Copied, Refused}
use Rattle.market.specs.Copy.{shown, copy_of, copy_bytes, unless_broken, copying, copy_after, copied_plan, market_copy}
use Rattle.market.specs.Prices.{SameQuantities}
use Rattle.market.specs.Blind.{SameCopy}

-- the copy is our completion without block powers, states and surplus, whatever the prices are
pub copy-shown : (c : Case) (p : Plan) (z : ℤ) → shown (written c.system (ours c p) z) ≡ copy_of c.system p
unfolding shown written ours copy_of
copy-shown c p z = simp map-map

-- as many bytes as the copy has, where one is written
pub length-copied : (e : ℕ) (q : System) (p : Plan) (room n : ℕ) → copying e q p room ≡ Copied n → length (copy_bytes e q p) ≡ n
unfolding copying
length-copied e q p room n k = go (breaches q p) (leb (length (copy_bytes e q p)) room) k
  where
    go : (bs : List Breach) (b : Bool) → unless_broken bs (pick b (Copied (length (copy_bytes e q p))) (Refused S.Result (TooShort (length (copy_bytes e q p))))) ≡ Copied n → length (copy_bytes e q p) ≡ n
    go [] true k = cc
    go [] false k = absurd (let z : ◌≡◌ {A = ℕ} 0 1 = cc in omega arith)
    go (b ∷ bs) c k = absurd (let z : ◌≡◌ {A = ℕ} 0 1 = cc in omega arith)

pub copied-first : (e : ℕ) (q : System) (p : Plan) (before : List ℕ) (n : ℕ) → (copied_plan e q p before).answer ≡ Copied n
    → (take n (copied_plan e q p before).result ≡ copy_bytes e q p) × (drop n (copied_plan e q p before).result ≡ drop n before)
unfolding copied_plan
copied-first e q p before n k =
    let m = length-copied e q p (length before) n k in
    let r : copy_after (copying e q p (length before)) (copy_bytes e q p) before ≡ copy_bytes e q p ++ drop (length (copy_bytes e q p)) before = rw k refl in
    (ap (take n) r ∙ take_at (copy_bytes e q p) _ _ m, ap (drop n) r ∙ drop_at (copy_bytes e q p) _ _ m ∙ ap (λ (i : ℕ). drop i before) m)

-- the same plan against the same quantities, with buffers of one length
module _ (e : ℕ) (q : System) (p : Plan) (before other : List ℕ) (h : length before ≡ length other) where
  alike : (copied_plan e q p before).answer ≡ (copied_plan e q p other).answer
  unfolding copied_plan
  alike = ap (copying e q p) h

  pub same_copy : SameCopy (copied_plan e q p before) (copied_plan e q p other) before other
  unfolding copied_plan
  same_copy = record {
    answer = alike;
    bytes = λ n k. let g = copied-first e q p before n k in let i = copied-first e q p other n (sym alike ∙ k) in g.0 ∙ sym i.0;
    rest = λ n k. let g = copied-first e q p before n k in let i = copied-first e q p other n (sym alike ∙ k) in (g.1, i.1);
  }

-- "with buffers of one length", whatever they hold
pub blind-elsewhere : (l : Largest) (cs ds ps rs before other : List ℕ) (x y : Stated) (p : Plan) → stated_in l cs ≡ passes x → stated_in l ds ≡ passes y → SameQuantities x y
    → read_plan x ps ≡ passes p → read_plan y rs ≡ passes p → length before ≡ length other
    → SameCopy (market_copy l cs ps before) (market_copy l ds rs other) before other
unfolding market_copy
blind-elsewhere l cs ds ps rs before other x y p h k s i j n = rw (h, k, i, j, s.edition, s.system) (same_copy y.edition y.case.system p before other n)
