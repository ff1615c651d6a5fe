-- Editions 1 to 3 as before there was edition 4: "are read as they are and get the verdicts they had". No figure of theirs changed, and their widths and limits are the small ones.
use Rattle.std.specs.Prelude.{◌≡◌, false, List, ℕ, ◌≤◌}
use Rattle.std.proofs.Math.Path.{refl, sym, ap}
use Rattle.std.proofs.Common.{◌∙◌, arith, leb-false}
use Rattle.layouts.specs.declared.Fault.{Fault}
use Rattle.layouts.specs.declared.Place.{Place}
use Rattle.layouts.specs.Since.{has, has-not}
use Rattle.layouts.specs.Checked.{Checked}
use Rattle.layouts.specs.Sure.{Any, sure-checked, held-sure, nat-sure}
use Rattle.layouts.specs.As.{map_whole, whole-as, ahead, holding, leads, only}
use Rattle.layouts.specs.Layout.{Whole, passes, fails, begin, advanced, ◌then◌, held, fixed, read_whole}
use Rattle.model.specs.Case.{Case, Plan}
use Rattle.model.specs.Editions.{Largest, widths_of, newest, most_devices, most_intervals}
use Rattle.model.specs.Widths.{older-widths}
use Rattle.model.specs.ByEdition.{Stated, case_kind, edition_of, edition_field, case_layout, stated_in, planned_in}
use Rattle.model.specs.Judgement as J
use Rattle.model.specs.AsBefore.{stated}
use Rattle.model.specs.OneBar as O
use Rattle.model.specs.BeforeSizes as P
use Rattle.model.specs.BeforeSizes.{case_by}
use Rattle.ranges.specs.Ranges.{pair-sure, content-sure}
use Rattle.ranges.specs.Barless.{SystemBarless, PlanBarless, stated-barless, planned-barless}
use Rattle.theorems.proofs.BarsAsBefore.{judged-on-one}

module _ (l : Largest) (most : l.devices ≤ most_devices) (long : l.intervals ≤ most_intervals) (e : ℕ) (first : 1 ≤ e) (last : e ≤ newest) where
  case-checked : Checked (case_by (widths_of e) e l) Any
  unfolding case_by
  case-checked = sure-checked _ _ (held-sure _ _ _ _ Any (pair-sure _ _ _ _ (nat-sure _) (pair-sure _ _ _ _ (nat-sure _) (content-sure l most long e))) (λ v ok. tt))

  -- a case's message whose edition is e is read as one of that edition
  edition-reads : {X : Type 0} (s : List ℕ) → edition_of s ≡ e → (bad : Fault → X) (next : Stated → Place → X)
      → (case_layout l).read s begin bad next ≡ (case_by (widths_of e) e l).read s begin bad (λ c q. next (stated e c) q)
  unfolding case_layout case_by held ◌then◌
  edition-reads s h bad next =
      leads (only edition_field case_kind) s begin bad _
      ∙ ahead (fixed case_kind) s begin bad (λ _ _. holding edition_field s (advanced begin 4) bad _ e first last h)
      ∙ sym (leads (only edition_field case_kind) s begin bad _)

  pub read-by-edition : (s : List ℕ) → edition_of s ≡ e → stated_in l s ≡ map_whole (stated e) (read_whole (case_by (widths_of e) e l) s)
  unfolding stated_in
  read-by-edition s h = whole-as _ _ _ _ case-checked s (λ next. edition-reads s h fails next)

-- ---- editions 1 to 3
module _ (e : ℕ) (older : has 4 e ≡ false) where
  -- what came later is lacking too
  barless : has 5 e ≡ false
  barless = has-not 5 e (let l = leb-false 4 e older in omega arith)

  bytes-as-before : (c : Case) (p : Plan) → O.completion_bytes (stated e c) p ≡ P.completion_bytes e c p
  unfolding O.completion_bytes P.completion_bytes
  bytes-as-before c p = rw (older-widths e older) refl

  judged-as-before : (c : Case) (p : Plan) → SystemBarless c.system → PlanBarless p → (buffer : List ℕ) → J.judged (stated e c) p buffer ≡ P.judged e c p buffer
  unfolding O.judged P.judged
  judged-as-before c p hs hp buffer = judged-on-one (stated e c) p barless hs hp buffer ∙ rw (bytes-as-before c p) refl

  plan-as-before : (c : Case) → SystemBarless c.system → (ps buffer : List ℕ) (r : Whole Plan) → planned_in e c.system ps ≡ r → J.with_plan (stated e c) buffer r ≡ P.with_plan e c buffer r
  plan-as-before c hs ps buffer (passes p) h = judged-as-before c p hs (planned-barless e barless c.system ps p h) buffer
  plan-as-before c hs ps buffer (fails f) h = refl

  pub planned-as-before : (c : Case) (s : List ℕ) → planned_in e c.system s ≡ P.read_plan e c s
  unfolding planned_in P.read_plan
  planned-as-before c s = rw (older-widths e older) refl

  case-as-before : (ps buffer : List ℕ) (r : Whole Case) → ((c : Case) → r ≡ passes c → SystemBarless c.system) → J.with_case ps buffer (map_whole (stated e) r) ≡ P.with_case e ps buffer r
  case-as-before ps buffer (passes c) hs =
      ap (J.with_plan (stated e c) buffer) (planned-as-before c ps) ∙ plan-as-before c (hs c refl) ps buffer (P.read_plan e c ps) (planned-as-before c ps)
  case-as-before ps buffer (fails f) hs = refl

  -- by any reader that takes no more than the most, for all bytes whose edition is e
  module _ (l : Largest) (most : l.devices ≤ most_devices) (long : l.intervals ≤ most_intervals) (first : 1 ≤ e) (last : e ≤ newest) where
    pub sized-as-before : (s : List ℕ) → edition_of s ≡ e → stated_in l s ≡ map_whole (stated e) (P.read_case e l s)
    unfolding P.read_case
    sized-as-before s h = rw (sym (older-widths e older)) (read-by-edition l most long e first last s h)

    -- a case of editions 1 to 3, with any plan and any buffer: the same fault or verdict, and the same bytes in the buffer
    pub sized-judged : (cs ps buffer : List ℕ) → edition_of cs ≡ e → J.judgement l cs ps buffer ≡ P.judgement e l cs ps buffer
    unfolding J.judgement P.judgement
    sized-judged cs ps buffer h = ap (J.with_case ps buffer) (sized-as-before cs h) ∙ case-as-before ps buffer (P.read_case e l cs)
        (λ c r. stated-barless l most long cs (stated e c) (sized-as-before cs h ∙ ap (map_whole (stated e)) r) barless)
