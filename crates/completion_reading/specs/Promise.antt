-- The promises of the readers, for any bytes of a case and a message and any lent table.
use Rattle.std.specs.Prelude.{◌≡◌, Bool, true, not, List, [], ◌∷◌, ◌++◌, ℕ, ◌≤◌, ◌<◌, leb, ℤ, length, drop}
use Rattle.std.proofs.Math.Path.{refl, sym, ap}
use Rattle.std.proofs.Common.{◌∙◌, arith, leb-false}
use Rattle.std.proofs.Math.Bool.{false}
use Rattle.std.proofs.Math.ListN.{take}
use Rattle.bits.specs.Pick.{pick}
use Rattle.layouts.specs.declared.Fault.{Fault}
use Rattle.layouts.specs.declared.Fault.TheVariants as F
use Rattle.layouts.specs.Layout.{Whole, passes, fails}
use Rattle.model.specs.declared.Breach.{Breach}
use Rattle.model.specs.declared.Verdict.TheVariants as Y
use Rattle.model.specs.Case.{System, Plan}
use Rattle.model.specs.Editions.{Largest, widths_of, most_devices, most_intervals}
use Rattle.model.specs.Breaches.{breaches}
use Rattle.model.proofs.Named.{none-every}
use Rattle.model.specs.Rules.{EveryRule}
use Rattle.model.specs.ByEdition.{Stated, stated_in}
use Rattle.model.specs.Ours.{ours}
use Rattle.model.specs.Judgement.{written, our_surplus, read_plan, completion_bytes, accepts, unless_broken, verdict, judgement}
use Rattle.theorems.specs.Promise.{Sound}
use Rattle.theorems.proofs.Promise.{stated-sound, promised}
use Rattle.completion_reading.specs.declared.Reading.TheVariants.{Figures, RefusedCase, RefusedMessage, Short}
use Rattle.market.specs.declared.Copying.TheVariants.{Copied}
use Rattle.market.specs.Copy.{copy_of, copy_bytes, Copies, copied_plan, market_copy}
use Rattle.market.proofs.Blind.{copied-first}
use Rattle.market.proofs.Promise.{copied-only, desk-read, copy_read}
use Rattle.completion_reading.specs.Readers.{desk_in, market_in, Refusal, desk-refuses, market-refuses, desk-refuses-copy, market-refuses-completion}
use Rattle.completion_reading.specs.Begun.{desk-begun, market-begun}
use Rattle.completion_reading.specs.Figures.{completion_figures, copy_figures, as_figures, figures_in, Readings, tabled, lent_case, readings}

-- ---- what is written reads back

-- our completion for the desk, our copy for the market; and their figures
abbrev pub our_message : Bool → Stated → Plan → List ℕ
our_message true x p = completion_bytes x p
our_message false x p = copy_bytes x.edition x.case.system p

abbrev pub our_figures : Bool → Stated → Plan → List ℕ
our_figures true x p = completion_figures x.edition (written x.case.system (ours x.case p) (our_surplus x.case p))
our_figures false x p = copy_figures x.edition (copy_of x.case.system p)

module _ (x : Stated) (g : Sound x) (ps : List ℕ) (p : Plan) (rp : read_plan x ps ≡ passes p) (ok : EveryRule x.case.system p) where
  abbrev q : System
  q = x.case.system

  -- the desk reads our completion back, the market our copy
  pub desk-back : desk_in x.edition q (completion_bytes x p) ≡ passes (written q (ours x.case p) (our_surplus x.case p))
  unfolding desk_in
  desk-back = desk-read x g ps p rp ok

  pub market-back : market_in x.edition q (copy_bytes x.edition q p) ≡ passes (copy_of q p)
  unfolding market_in
  market-back = copy_read x g ps p rp ok

  pub figures-back : (desk : Bool) → figures_in desk x.edition q (our_message desk x p) ≡ passes (our_figures desk x p)
  figures-back true = ap (as_figures (completion_figures x.edition)) desk-back
  figures-back false = ap (as_figures (copy_figures x.edition)) market-back

  -- "A desk reader refuses kind 4 and a market reader refuses kind 3"
  pub other-refused : (desk : Bool) → figures_in desk x.edition q (our_message (not desk) x p) ≡ fails (F.WrongKind 0)
  other-refused true = ap (as_figures (completion_figures x.edition)) (desk-refuses-copy x.edition q _ _ market-back)
  other-refused false = ap (as_figures (copy_figures x.edition)) (market-refuses-completion x.edition q _ _ desk-back)

  pub begun-refused : (desk : Bool) (k : ℕ) → k < length (our_message desk x p) → (b : ℕ) × (figures_in desk x.edition q (take k (our_message desk x p)) ≡ fails (F.Cut b))
  begun-refused true k short = let o = desk-begun x.edition q (completion_bytes x p) _ desk-back k short in (o.0, ap (as_figures (completion_figures x.edition)) o.1)
  begun-refused false k short = let o = market-begun x.edition q (copy_bytes x.edition q p) _ market-back k short in (o.0, ap (as_figures (copy_figures x.edition)) o.1)

-- ---- what a reading promises

-- `r` is the answer and the table afterwards
pub record ReadPromise (l : Largest) (desk : Bool) (cs s before : List ℕ) (r : Readings) : Type 0 where
  -- a case that is refused comes first
  pub case-refused : (f : Fault) → stated_in l cs ≡ fails f → (r.answer ≡ RefusedCase f) × (r.table ≡ before)
  -- a message is refused by 1, by 2 at bit 0 or 4, by 3 at one of its three counts, or by 6, and the table is left
  pub message-refused : (x : Stated) → stated_in l cs ≡ passes x → (f : Fault) → r.answer ≡ RefusedMessage f → Refusal (widths_of x.edition) f × (r.table ≡ before)
  -- 7 comes last, and the table is left
  pub short : (n : ℕ) → r.answer ≡ Short n → (length before < n) × (r.table ≡ before)
  -- of what judging wrote, or the market's copy, every figure comes back
  pub back : (x : Stated) (ps : List ℕ) (p : Plan) → stated_in l cs ≡ passes x → read_plan x ps ≡ passes p → breaches x.case.system p ≡ []
      → s ≡ our_message desk x p → r ≡ tabled (passes (our_figures desk x p)) before
  -- the other's is refused by 2 at bit 0
  pub other : (x : Stated) (ps : List ℕ) (p : Plan) → stated_in l cs ≡ passes x → read_plan x ps ≡ passes p → breaches x.case.system p ≡ []
      → s ≡ our_message (not desk) x p → r.answer ≡ RefusedMessage (F.WrongKind 0)
  -- every beginning of its own is refused by 1
  pub begun : (x : Stated) (ps : List ℕ) (p : Plan) → stated_in l cs ≡ passes x → read_plan x ps ≡ passes p → breaches x.case.system p ≡ []
      → (k : ℕ) → k < length (our_message desk x p) → s ≡ take k (our_message desk x p) → (b : ℕ) × (r.answer ≡ RefusedMessage (F.Cut b))

-- how a reading ends, by its answer
fails_of : {A : Type 0} (figures : A → List ℕ) (w : Whole A) (f : Fault) → as_figures figures w ≡ fails f → w ≡ fails f
fails_of figures (passes a) f e = absurd (let z : ◌≡◌ {A = ℕ} 0 1 = cc in omega arith)
fails_of figures (fails g) f e = let h : g ≡ f = cc in ap fails h

figures-refuse : (desk : Bool) (e : ℕ) (q : System) (s : List ℕ) (f : Fault) → figures_in desk e q s ≡ fails f → Refusal (widths_of e) f
figures-refuse true e q s f h = desk-refuses e q s f (fails_of (completion_figures e) (desk_in e q s) f h)
figures-refuse false e q s f h = market-refuses e q s f (fails_of (copy_figures e) (market_in e q s) f h)

-- a list of figures and the table, by whether it fits
abbrev tabled_by : Bool → List ℕ → List ℕ → Readings
tabled_by b vs before = pick b (record { answer = Figures (length vs); table = vs ++ drop (length vs) before }) (record { answer = Short (length vs); table = before })

tabled-refused : (w : Whole (List ℕ)) (before : List ℕ) (f : Fault) → (tabled w before).answer ≡ RefusedMessage f → (w ≡ fails f) × ((tabled w before).table ≡ before)
tabled-refused (fails g) before f e = let h : g ≡ f = cc in (ap fails h, refl)
tabled-refused (passes vs) before f e = absurd (never (leb (length vs) (length before)) e)
  where
    never : (b : Bool) → (tabled_by b vs before).answer ≡ RefusedMessage f → ⊥
    never true e = let z : ◌≡◌ {A = ℕ} 0 1 = cc in omega arith
    never false e = let z : ◌≡◌ {A = ℕ} 0 1 = cc in omega arith

tabled-short : (w : Whole (List ℕ)) (before : List ℕ) (n : ℕ) → (tabled w before).answer ≡ Short n → (length before < n) × ((tabled w before).table ≡ before)
tabled-short (fails g) before n e = absurd (let z : ◌≡◌ {A = ℕ} 0 1 = cc in omega arith)
tabled-short (passes vs) before n e = go (leb (length vs) (length before)) refl e
  where
    go : (b : Bool) → leb (length vs) (length before) ≡ b → (tabled_by b vs before).answer ≡ Short n → (length before < n) × ((tabled_by b vs before).table ≡ before)
    go true t e = absurd (let z : ◌≡◌ {A = ℕ} 0 1 = cc in omega arith)
    go false t e = let h : length vs ≡ n = cc in (let l = leb-false (length vs) (length before) t in omega arith, refl)

module _ (l : Largest) (most : l.devices ≤ most_devices) (long : l.intervals ≤ most_intervals) (desk : Bool) (cs s before : List ℕ) where
  passed-case : (x : Stated) → stated_in l cs ≡ passes x → readings l desk cs s before ≡ tabled (figures_in desk x.edition x.case.system s) before
  unfolding readings
  passed-case x e = ap (lent_case desk s before) e

  failed-case : (f : Fault) → stated_in l cs ≡ fails f → readings l desk cs s before ≡ record { answer = RefusedCase f; table = before }
  unfolding readings
  failed-case f e = ap (lent_case desk s before) e

  short-of : (n : ℕ) (w : Whole Stated) → (lent_case desk s before w).answer ≡ Short n → (length before < n) × ((lent_case desk s before w).table ≡ before)
  short-of n (passes x) e = tabled-short (figures_in desk x.edition x.case.system s) before n e
  short-of n (fails f) e = absurd (let z : ◌≡◌ {A = ℕ} 0 1 = cc in omega arith)

  pub read-promised : ReadPromise l desk cs s before (readings l desk cs s before)
  unfolding readings
  read-promised = record {
    case-refused = λ f e. let h = failed-case f e in (ap (λ (r : Readings). r.answer) h, ap (λ (r : Readings). r.table) h);
    message-refused = λ x e f k.
        let h = passed-case x e in
        let t = tabled-refused (figures_in desk x.edition x.case.system s) before f (sym (ap (λ (r : Readings). r.answer) h) ∙ k) in
        (figures-refuse desk x.edition x.case.system s f t.0, ap (λ (r : Readings). r.table) h ∙ t.1);
    short = λ n k. short-of n (stated_in l cs) k;
    back = λ x ps p e rp ok h.
        passed-case x e ∙ ap (λ (w : Whole (List ℕ)). tabled w before)
        (ap (figures_in desk x.edition x.case.system) h ∙ figures-back x (stated-sound l most long cs x e) ps p rp (none-every x.case.system p ok) desk);
    other = λ x ps p e rp ok h.
        ap (λ (r : Readings). r.answer) (passed-case x e ∙ ap (λ (w : Whole (List ℕ)). tabled w before)
        (ap (figures_in desk x.edition x.case.system) h ∙ other-refused x (stated-sound l most long cs x e) ps p rp (none-every x.case.system p ok) desk));
    begun = λ x ps p e rp ok k m h.
        let o = begun-refused x (stated-sound l most long cs x e) ps p rp (none-every x.case.system p ok) desk k m in
        (o.0, ap (λ (r : Readings). r.answer) (passed-case x e ∙ ap (λ (w : Whole (List ℕ)). tabled w before) (ap (figures_in desk x.edition x.case.system) h ∙ o.1)));
  }

-- ---- what judging and copying wrote

accepted-only : (x : Stated) (p : Plan) (room : ℕ) (z : ℤ) → verdict x p room ≡ Y.Accepted z → breaches x.case.system p ≡ []
unfolding verdict accepts
accepted-only x p room z e = go (breaches x.case.system p) refl e
  where
    go : (bs : List Breach) → breaches x.case.system p ≡ bs → unless_broken bs (accepts (our_surplus x.case p) (length (completion_bytes x p)) room) ≡ Y.Accepted z
        → breaches x.case.system p ≡ []
    go [] h e = h
    go (b ∷ bs) h e = absurd (let z : ◌≡◌ {A = ℕ} 0 1 = cc in omega arith)

module _ (l : Largest) (most : l.devices ≤ most_devices) (long : l.intervals ≤ most_intervals) (cs ps buffer table : List ℕ)
    (x : Stated) (p : Plan) (e : stated_in l cs ≡ passes x) (rp : read_plan x ps ≡ passes p) where
  -- "the desk reader gives back our completion from what `judge` wrote"
  pub judged-back : (z : ℤ) → (judgement l cs ps buffer).verdict ≡ Y.Accepted z
      → readings l true cs (take (length (completion_bytes x p)) (judgement l cs ps buffer).result) table ≡ tabled (passes (our_figures true x p)) table
  judged-back z k =
      let j = (promised l most long cs ps buffer).case-passed x e in
      (read-promised l most long true cs _ table).back x ps p e rp (accepted-only x p (length buffer) z (sym (j.judges p rp) ∙ k)) (j.wrote p z rp k).bytes

  copied-as : market_copy l cs ps buffer ≡ copied_plan x.edition x.case.system p buffer
  unfolding market_copy
  copied-as = rw (e, rp) refl

  -- "and the market reader what `market_copy` wrote"
  pub copied-back : (n : ℕ) → (market_copy l cs ps buffer).answer ≡ Copied n
      → readings l false cs (take n (market_copy l cs ps buffer).result) table ≡ tabled (passes (our_figures false x p)) table
  unfolding copied_plan
  copied-back n k =
      let a : (copied_plan x.edition x.case.system p buffer).answer ≡ Copied n = sym (ap (λ (j : Copies). j.answer) copied-as) ∙ k in
      let none = (copied-only x.edition x.case.system p (length buffer) n a).0 in
      let first = ap (λ (j : Copies). take n j.result) copied-as ∙ (copied-first x.edition x.case.system p buffer n a).0 in
      (read-promised l most long false cs _ table).back x ps p e rp none first
