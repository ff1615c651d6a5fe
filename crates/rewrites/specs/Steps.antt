-- Writing a case's bytes and a plan's in the newest edition: refused in reading, or their content's bytes, or 7.
use Rattle.std.specs.Prelude.{Ok, Err, ◌≡◌, refl, List, ℕ, ◌*◌, ◌≤◌, length}
use Rattle.std.proofs.Common.{sym, ap, ap₂, ◌∙◌, subst}
use Rattle.bits.specs.Bits.{reach}
use Rattle.layouts.specs.declared.Fault.{Fault}
use Rattle.layouts.specs.Layout.{passes, fails, read_whole}
use Rattle.model.specs.declared.Subject.TheVariants as S
use Rattle.model.specs.Case.{Plan}
use Rattle.model.specs.Editions.{Largest, newest, most_devices, most_intervals}
use Rattle.model.specs.ByEdition.{Stated, stated_in, plan_layout}
use Rattle.model.specs.AsBefore.{stated}
use Rattle.message_ends.specs.Ended.{Ending, ended}
use Rattle.row_places.specs.declared.Front.{Front}
use Rattle.row_places.specs.declared.Counts.{Counts}
use Rattle.records.specs.Views.{plan_in}
use Rattle.front_reader.specs.Fronts.{largest}
use Rattle.case_reader.specs.Whole.{case_of, CasePassed, CaseRefused}
use Rattle.plan_header.specs.Plans.{PlanDone}
use Rattle.writing.specs.declared.Writing.{Writing}
use Rattle.writing.specs.declared.Writing.TheVariants.{Refused}
use Rattle.writing.specs.Anew.{case_bytes, Writings, writing, put, case_anew, put_rows}
use Rattle.writing.specs.Promise.{CasePromise}
use Rattle.writing.proofs.Promise.{case-promised}
use Rattle.writing.specs.CaseSplices.{case_splice}
use Rattle.writing.specs.PlanSplices.{plan_splice, front_of}
use Rattle.bit_copier.specs.Moves.{Renews}
use Rattle.case_copier.specs.Whole.{some_byte, case-written}
use Rattle.plan_copier.specs.Whole.{some-front, plan-written}

-- two answers that are equal part by part
pub same-writings : {r : Writing} {after : List ℕ} {w : Writings} → r ≡ w.answer → after ≡ w.result → w ≡ record { answer = r; result = after }
same-writings e f = ap₂ (λ (x : Writing) (y : List ℕ). record { answer = x; result = y }) (sym e) (sym f)

-- ---- a case

-- `l` are the largest counts that the reader takes; `before` and `after` are the result buffer as it came and as it is left
pub record RewritesCase (l : Largest) (cs before after : List ℕ) (r : Writing) : Type 0 where
  -- the definition's answer, and the buffer as the definition leaves it
  pub answer : r ≡ (case_anew l cs before).answer
  pub result : after ≡ (case_anew l cs before).result
  -- refusals with no byte touched; the written message reads back, is its own where it was of the newest edition, goes with its content, and is judged as before
  pub promise : CasePromise l cs before (record { answer = r; result = after })

pub rewrites-case : (l : Largest) {cs before after : List ℕ} {r : Writing} → r ≡ (case_anew l cs before).answer → after ≡ (case_anew l cs before).result → RewritesCase l cs before after r
rewrites-case l {cs} {before} e f = record { answer = e; result = f; promise = subst (CasePromise l cs before) (same-writings e f) (case-promised l cs before) }

-- a case of edition e that passed reading, copied from its own bits
pub record RenewsCase (e : ℕ) (cs before after : List ℕ) (r : Writing) : Type 0 where
  pub needed : ℕ
  pub renews : Renews (case_splice e) 8 cs before after needed
  pub is : r ≡ writing needed (length before)

-- then its content is written
pub renewed : (l : Largest) (cs : List ℕ) (x : Stated) → stated_in l cs ≡ passes x → {before after : List ℕ} {r : Writing} → RenewsCase x.edition cs before after r
    → (r ≡ (put (case_bytes x.case) before).answer) × (after ≡ (put (case_bytes x.case) before).result)
renewed l cs x e k = let g = case-written l cs x e k.renews in (k.is ∙ g.2, g.1)

-- what writing a case that failed, or passed, is
case-off : (l : Largest) (cs before : List ℕ) (f : Fault) → stated_in l cs ≡ fails f → (Refused S.Case f ≡ (case_anew l cs before).answer) × (before ≡ (case_anew l cs before).result)
unfolding case_anew
case-off l cs before f e = rw e (refl, refl)

case-on : (l : Largest) (cs before : List ℕ) (x : Stated) → stated_in l cs ≡ passes x
    → ((put (case_bytes x.case) before).answer ≡ (case_anew l cs before).answer) × ((put (case_bytes x.case) before).result ≡ (case_anew l cs before).result)
unfolding case_anew
case-on l cs before x e = rw e (refl, refl)

module _ (i j : ℕ) (cs : List ℕ) where
  pub case-fails : (before : List ℕ) {f : Fault} → CaseRefused i j cs f → RewritesCase (largest i j) cs before before (Refused S.Case f)
  case-fails before {f} h = let off = case-off (largest i j) cs before f (sym h.is) in rewrites-case (largest i j) off.0 off.1

  module _ (halves : List ℕ) (zones minima devices cells : List (List ℕ)) (front : Front) (n : Counts) (h : CasePassed i j cs halves zones minima devices cells front n) where
    abbrev held : Stated
    held = stated front.edition (case_of front n halves zones minima devices cells)

    -- a case that passes has a first byte
    pub case-some : 1 ≤ reach cs
    case-some = some_byte (largest i j) cs held (sym h.is)

    pub case-passes : {before after : List ℕ} {r : Writing} → RenewsCase front.edition cs before after r → RewritesCase (largest i j) cs before after r
    case-passes {before} k =
        let on = case-on (largest i j) cs before held (sym h.is) in
        let g = renewed (largest i j) cs held (sym h.is) k in
        rewrites-case (largest i j) (g.0 ∙ on.0) (g.1 ∙ on.1)

-- ---- a plan, of a case of edition e with d devices and n intervals

pub record RewritesRows (e d n : ℕ) (ps before after : List ℕ) (r : Writing) : Type 0 where
  pub answer : e ≤ newest → r ≡ (put_rows d n before (read_whole (plan_layout e d n) ps)).answer
  pub result : e ≤ newest → after ≡ (put_rows d n before (read_whole (plan_layout e d n) ps)).result

module _ (e d n : ℕ) (ps : List ℕ) (settings : List (List ℕ)) (r : Ending) (h : PlanDone e d n ps settings r) where
  abbrev p : Plan
  p = plan_in d n settings

  plan-off : {f : Fault} → r ≡ Err f → read_whole (plan_layout e d n) ps ≡ fails f
  plan-off t = sym h.reads ∙ ap (ended p) t

  plan-on : r ≡ Ok tt → read_whole (plan_layout e d n) ps ≡ passes p
  plan-on t = sym h.reads ∙ ap (ended p) t

  pub plan-fails : (before : List ℕ) {f : Fault} → r ≡ Err f → RewritesRows e d n ps before before (Refused S.Plan f)
  plan-fails before t = let g = plan-off t in record { answer = λ _. rw g refl; result = λ _. rw g refl }

  -- a plan that passes has a front
  pub plan-some : r ≡ Ok tt → front_of e ≤ 8 * reach ps
  plan-some t = some-front e d n ps p (plan-on t)

  pub plan-passes : {before after : List ℕ} {needed : ℕ} {w : Writing} → d ≤ most_devices → n ≤ most_intervals → r ≡ Ok tt
      → Renews (plan_splice e d n) (front_of e) ps before after needed → w ≡ writing needed (length before) → RewritesRows e d n ps before after w
  plan-passes few short t k a =
      let g = plan-on t in
      record { answer = λ old. rw g (a ∙ (plan-written e d n old few short ps p g k).2); result = λ old. rw g (plan-written e d n old few short ps p g k).1 }
