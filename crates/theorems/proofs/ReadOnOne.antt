-- Editions 1 to 4 as before there was edition 5, and editions 1 and 2 as before there were floors, over all bytes: the layouts of a case and a plan without a
-- link limit, bars and flows, and that by any reader a message of such an edition is read, refused and judged by them. "As before" is as just before that
-- landing: what A.3 changed (energy windows go by the minute, `Completion.minutes_in`) and A.4 (three startup states at most, `Editions.most_states`) holds in every
-- edition, edition 1 included, and stands in these pages too.
use Rattle.std.specs.Prelude.{◌≡◌, false, ℕ, ◌≤◌, ℤ}
use Rattle.std.proofs.Math.Path.{refl, ap, ap₂, fun_ext}
use Rattle.std.proofs.Common.{sym, ◌∙◌, arith, leb-false}
use mathlib.Core.List.{List, [], ◌∷◌, map, append-nil, map-map, map-id}
use Rattle.layouts.specs.Layout.{Whole, passes, fails, begin, nat, ◌then◌, list, held, fixed, read_whole}
use Rattle.layouts.specs.Since.{has, has-not, present, nothing}
use Rattle.layouts.specs.As.{As, as_same, as-pair, as-list, as-into, as-held, map_whole}
use Rattle.model.specs.Case.{Case, Plan, Setting, no_flow}
use Rattle.model.specs.Forced.{intervals, devices}
use Rattle.model.specs.Editions.{Widths, Largest, widths_of, newest, most_devices, most_intervals}
use Rattle.model.specs.Messages.{apart, pairs}
use Rattle.model.specs.Messages as M
use Rattle.model.specs.ByEdition.{plan_kind, edition_of, stated_in, planned_in, cell, cell_with, setting, device_by, content_by, plan_by, planned}
use Rattle.model.specs.Judgement as J
use Rattle.model.specs.OneBar as O
use Rattle.model.specs.BeforeFloors as F
use Rattle.model.specs.AsBefore.{stated}
use Rattle.model.proofs.AsBefore.{cell-without}
use Rattle.model.specs.BeforeSizes.{case_by}
use Rattle.theorems.proofs.BarsAsBefore.{bars-judged}
use Rattle.theorems.proofs.AsBefore.{older-judged}
use Rattle.theorems.proofs.SizesAsBefore.{read-by-edition}
use Rattle.theorems.specs.ReadOnOne.{case_one, content_one, device_one, judgement, judgement_floorless, plan_one, read_case, read_plan, with_case}

-- ---- a message of an edition before 5 is read by them
module _ (e : ℕ) (h : has 5 e ≡ false) where
  device-one : (w : Widths) (intervals zones last : ℕ) → device_by w e intervals zones last ≡ device_one (cell e) w e intervals zones last
  unfolding device_by device_one held ◌then◌ present nothing
  device-one w n zones last = rw h refl

  devices-one : (w : Widths) → device_by w e ≡ device_one (cell e) w e
  devices-one w = fun_ext (λ n. fun_ext (λ zones. fun_ext (λ last. device-one w n zones last)))

  pub content-one : (w : Widths) (l : Largest) → content_by w e l ≡ content_one (cell e) w e l
  unfolding content_by content_one held ◌then◌ present nothing
  content-one w l = rw (h, devices-one w) refl

  -- an interval's devices and nothing behind them
  interval-as : (n : ℕ) → As (planned e n) (λ row. (row, no_flow)) (list n (setting e))
  unfolding ◌then◌ present nothing
  interval-as n = rw h (record { reads = λ s p bad next. refl; writes = λ row. append-nil ((list n (setting e)).write row) })

  unflowed : List (List Setting) → List (List Setting) × List ℤ
  unflowed rows = (rows, map (λ (row : List Setting). no_flow) rows)

  pairs-are : (rows : List (List Setting)) → pairs rows (map (λ (row : List Setting). no_flow) rows) ≡ map (λ (row : List Setting). (row, no_flow)) rows
  unfolding pairs
  pairs-are [] = refl
  pairs-are (row ∷ rows) = ap (λ (xs : List (List Setting × ℤ)). (row, no_flow) ∷ xs) (pairs-are rows)

  rows_as : (n m : ℕ) → As (apart (list m (planned e n))) unflowed (list m (list n (setting e)))
  unfolding apart unflowed
  rows_as n m = as-into (as-list (interval-as n) m) _ _ unflowed
      (λ rows. ap₂ (λ (a : List (List Setting)) (b : List ℤ). (a, b)) (map-map _ _ rows ∙ map-id rows) (map-map _ _ rows)) pairs-are

  -- a plan in the newest form
  abbrev in_form : Plan → Plan
  in_form p = record { settings = p.settings; flows = map (λ (row : List Setting). no_flow) p.settings }

  plan-as : (w : Widths) (n m : ℕ) → As (plan_by w e n m) in_form (plan_one w e n m)
  unfolding plan_by plan_one unflowed
  plan-as w n m = as-held
      (as-pair (as_same (fixed plan_kind)) (as-pair (as_same (fixed e)) (as-pair (as_same (nat _)) (as-pair (as_same (nat _)) (rows_as n m)))))
      _ _ _ _ _ (λ a. refl) (λ c. refl)

  pub plan-one : (w : Widths) (n m : ℕ) (s : List ℕ) → read_whole (plan_by w e n m) s ≡ read_whole (plan_one w e n m) s
  unfolding read_whole plan_one held
  plan-one w n m s = (plan-as w n m).reads s begin _ _

module _ (l : Largest) (most : l.devices ≤ most_devices) (long : l.intervals ≤ most_intervals) (e : ℕ) (first : 1 ≤ e) (last : e ≤ newest) where
  module _ (h : has 5 e ≡ false) where
    pub case-read-on-one : (s : List ℕ) → edition_of s ≡ e → stated_in l s ≡ map_whole (stated e) (read_case (cell e) e l s)
    unfolding read_case case_one case_by
    case-read-on-one s k = rw (sym (content-one e h (widths_of e) l)) (read-by-edition l most long e first last s k)

    pub plan-read-on-one : (c : Case) (s : List ℕ) → J.read_plan (stated e c) s ≡ read_plan (stated e c) s
    unfolding planned_in read_plan
    plan-read-on-one c s = plan-one e h (widths_of e) (devices c.system) (intervals c.system) s

    -- every message whose edition is e, with any plan and any buffer: the same fault or verdict, and the same bytes in the buffer
    pub judged-on-one-bar : (cs ps buffer : List ℕ) → edition_of cs ≡ e → J.judgement l cs ps buffer ≡ judgement e l cs ps buffer
    unfolding J.judgement judgement
    judged-on-one-bar cs ps buffer k = go (read_case (cell e) e l cs) (case-read-on-one cs k)
      where
        go : (r : Whole Case) → stated_in l cs ≡ map_whole (stated e) r → J.with_case ps buffer (stated_in l cs) ≡ with_case O.with_plan e ps buffer r
        go (passes c) t = rw t (bars-judged l most long cs (stated e c) t h ps buffer ∙ ap (O.with_plan (stated e c) buffer) (plan-read-on-one c ps))
        go (fails f) t = rw t refl

  module _ (h : has 3 e ≡ false) where
    later : has 5 e ≡ false
    later = has-not 5 e (let l = leb-false 3 e h in omega arith)

    pub case-read-floorless : (s : List ℕ) → edition_of s ≡ e → stated_in l s ≡ map_whole (stated e) (read_case (cell_with e M.block) e l s)
    case-read-floorless s k = rw (sym (cell-without e h)) (case-read-on-one later s k)

    -- and of editions 1 and 2 without floors
    pub judged-floorless : (cs ps buffer : List ℕ) → edition_of cs ≡ e → J.judgement l cs ps buffer ≡ judgement_floorless e l cs ps buffer
    unfolding J.judgement judgement_floorless
    judged-floorless cs ps buffer k = go (read_case (cell_with e M.block) e l cs) (case-read-floorless cs k)
      where
        go : (r : Whole Case) → stated_in l cs ≡ map_whole (stated e) r → J.with_case ps buffer (stated_in l cs) ≡ with_case F.with_plan e ps buffer r
        go (passes c) t = rw t (older-judged l most long cs (stated e c) t h ps buffer ∙ ap (F.with_plan (stated e c) buffer) (plan-read-on-one later c ps))
        go (fails f) t = rw t refl
