-- Lists of breaches of older editions as before, on bytes: for every message whose edition is 1 to 4 the list without rule 27, whose edition is 1 or 2 with rule 19 by the
-- caps alone, whose edition is 1 with rules 1 to 20 alone; the same refusals, the same answer and the same bytes in the list's buffer.
-- What A.3 and A.4 changed holds in every edition: energy goes by the minute, which no rule reads, and a count of four startup states is refused.
use Rattle.std.specs.Prelude.{◌≡◌, false, List, ℕ, ◌≤◌}
use Rattle.std.proofs.Math.Path.{refl, ap}
use Rattle.std.proofs.Common.{◌∙◌, arith}
use Rattle.layouts.specs.Layout.{Whole, passes, fails}
use Rattle.layouts.specs.Since.{has}
use Rattle.layouts.specs.As.{map_whole}
use Rattle.model.specs.Case.{Case, Plan}
use Rattle.model.specs.Messages as M
use Rattle.model.specs.Editions.{Largest, device_limit, interval_limit, newest, most_devices, most_intervals}
use Rattle.model.specs.ByEdition.{Stated, stated_in, edition_of, cell, cell_with}
use Rattle.model.specs.Breaches.{breaches}
use Rattle.model.specs.Judgement as J
use Rattle.model.specs.Lists.{listed, list_plan, list_case, listings}
use Rattle.model.specs.OneBar as O
use Rattle.model.specs.BeforeFloors as F
use Rattle.model.specs.Before as P
use Rattle.model.specs.AsBefore.{stated}
use Rattle.model.proofs.AsBefore.{planned-as-before}
use Rattle.ranges.specs.Plain.{stated-plain, planned-plain}
use Rattle.ranges.specs.Floorless.{stated-floorless}
use Rattle.ranges.specs.Barless.{stated-barless, planned-barless}
use Rattle.theorems.proofs.Barless.{breaches-on-one}
use Rattle.theorems.proofs.Floorless as Floorless
use Rattle.theorems.proofs.Plain as Plain
use Rattle.theorems.proofs.AsBefore.{edition1-as-before}
use Rattle.theorems.specs.ReadOnOne.{read_case, read_plan}
use Rattle.theorems.proofs.ReadOnOne.{case-read-on-one, plan-read-on-one, case-read-floorless}
use Rattle.listings.specs.AsBefore.{Rules, list_case_by, list_plan_by, listed_by, listings_first, listings_floorless, listings_on_one}

-- ---- the same rules broken, the same list
listed-by : (rules : Rules) (x : Stated) (p : Plan) (buffer : List ℕ) → breaches x.case.system p ≡ rules x.case.system p → listed x p buffer ≡ listed_by rules x.case.system p buffer
unfolding listed listed_by
listed-by rules x p buffer e = rw e refl

-- a plan's bytes, where every plan that passes reading breaks the same rules
plan-by : (rules : Rules) (x : Stated) (ps buffer : List ℕ) → ((p : Plan) → J.read_plan x ps ≡ passes p → breaches x.case.system p ≡ rules x.case.system p)
    → list_plan x buffer (J.read_plan x ps) ≡ list_plan_by rules x.case.system buffer (J.read_plan x ps)
plan-by rules x ps buffer same = go (J.read_plan x ps) same
  where
    go : (r : Whole Plan) → ((p : Plan) → r ≡ passes p → breaches x.case.system p ≡ rules x.case.system p) → list_plan x buffer r ≡ list_plan_by rules x.case.system buffer r
    go (passes p) h = listed-by rules x p buffer (h p refl)
    go (fails f) h = refl

-- a case's bytes, where every plan for a case that passes reading does
case-by : (rules : Rules) (e : ℕ) (plan : Case → Whole Plan) (ps buffer : List ℕ) (r : Whole Case)
    → ((c : Case) → r ≡ passes c → (J.read_plan (stated e c) ps ≡ plan c) × ((p : Plan) → J.read_plan (stated e c) ps ≡ passes p → breaches c.system p ≡ rules c.system p))
    → list_case ps buffer (map_whole (stated e) r) ≡ list_case_by rules plan buffer r
case-by rules e plan ps buffer (passes c) h = plan-by rules (stated e c) ps buffer (h c refl).1 ∙ ap (list_plan_by rules c.system buffer) (h c refl).0
case-by rules e plan ps buffer (fails f) h = refl

-- ---- editions 1 to 4, and 1 and 2, by any reader that takes no more than the most
module _ (l : Largest) (most : l.devices ≤ most_devices) (long : l.intervals ≤ most_intervals) (e : ℕ) (first : 1 ≤ e) (last : e ≤ newest) where
  on_one : has 5 e ≡ false → (cs ps : List ℕ) (c : Case) → stated_in l cs ≡ passes (stated e c) → (p : Plan) → J.read_plan (stated e c) ps ≡ passes p → breaches c.system p ≡ O.breaches c.system p
  on_one h cs ps c t p r = breaches-on-one c.system p (stated-barless l most long cs (stated e c) t h) (planned-barless e h c.system ps p r)

  pub listed-on-one-bar : has 5 e ≡ false → (cs ps buffer : List ℕ) → edition_of cs ≡ e → listings l cs ps buffer ≡ listings_on_one e l cs ps buffer
  unfolding listings listings_on_one
  listed-on-one-bar h cs ps buffer k =
      let t = case-read-on-one l most long e first last h cs k in
      ap (list_case ps buffer) t ∙ case-by O.breaches e _ ps buffer (read_case (cell e) e l cs)
      (λ c r. (plan-read-on-one l most long e first last h c ps, on_one h cs ps c (t ∙ ap (map_whole (stated e)) r)))

  pub listed-floorless : (h : has 3 e ≡ false) (later : has 5 e ≡ false) (cs ps buffer : List ℕ) → edition_of cs ≡ e → listings l cs ps buffer ≡ listings_floorless e l cs ps buffer
  unfolding listings listings_floorless
  listed-floorless h later cs ps buffer k =
      let t = case-read-floorless l most long e first last h cs k in
      ap (list_case ps buffer) t ∙ case-by F.breaches e _ ps buffer (read_case (cell_with e M.block) e l cs)
      (λ c r. let passed : stated_in l cs ≡ passes (stated e c) = t ∙ ap (map_whole (stated e)) r in (
        plan-read-on-one l most long e first last later c ps,
        λ p s. on_one later cs ps c passed p s ∙ Floorless.breaches-as-before c.system p (stated-floorless l most long cs (stated e c) passed h),
      ))

-- ---- edition 1, by any reader that takes all that it allows
module _ (l : Largest) (most : l.devices ≤ most_devices) (long : l.intervals ≤ most_intervals) (d : device_limit 1 ≤ l.devices) (i : interval_limit 1 ≤ l.intervals) where
  pub listed-first : (cs ps buffer : List ℕ) → edition_of cs ≡ 1 → listings l cs ps buffer ≡ listings_first cs ps buffer
  unfolding listings listings_first
  listed-first cs ps buffer k =
      let t = edition1-as-before l d i cs k in
      ap (list_case ps buffer) t ∙ case-by P.breaches 1 _ ps buffer (P.read_case cs)
      (λ c r. let passed : stated_in l cs ≡ passes (stated 1 c) = t ∙ ap (map_whole (stated 1)) r in (
        planned-as-before c.system ps,
        λ p s. on_one l most long 1 (omega arith) (omega arith) refl cs ps c passed p s
            ∙ Floorless.breaches-as-before c.system p (stated-floorless l most long cs (stated 1 c) passed refl)
            ∙ Plain.breaches-as-before c.system p (stated-plain l most long cs (stated 1 c) passed refl) (planned-plain 1 refl c.system ps p s),
      ))
