-- Edition 1 as before, on whole messages: read to the same fault or the same case with edition 1 beside it, judged to the same verdict and the same bytes.
use Rattle.std.specs.Prelude.{◌≡◌, false, List, ℕ, ◌≤◌, ℤ}
use Rattle.std.proofs.Math.Path.{refl, ap, ap₂}
use Rattle.std.proofs.Common.{sym, ◌∙◌, arith, leb-false}
use Rattle.layouts.specs.Since.{has, has-not}
use Rattle.layouts.specs.As.{map_whole, whole-as}
use Rattle.layouts.specs.Layout.{Whole, passes, fails, nat, ◌then◌, held, bytes}
use Rattle.model.specs.Case.{Case, Plan}
use Rattle.model.specs.Editions.{Largest, small_widths, widths_of, device_limit, interval_limit, most_devices, most_intervals, batch}
use Rattle.model.specs.Messages as M
use Rattle.model.specs.Messages.{edition1}
use Rattle.model.specs.ByEdition.{Stated, edition_of, case_layout, stated_in, planned_in}
use Rattle.model.specs.Completion.{Completion}
use Rattle.model.specs.OneBar as O
use Rattle.model.specs.OneBar.{surplus_of, completion_by}
use Rattle.model.specs.Ours.{whole}
use Rattle.model.specs.Judgement as J
use Rattle.model.specs.Judgement.{written, counts_of, energy_windows}
use Rattle.model.specs.BeforeFloors as F
use Rattle.model.specs.Before as P
use Rattle.model.specs.Before.{read_case, read_plan, completion_of}
use Rattle.model.specs.AsBefore.{stated, first}
use Rattle.model.proofs.AsBefore.{first-as, edition1-reads, planned-as-before, completion-as}
use Rattle.ranges.specs.Ranges.{case-checked}
use Rattle.ranges.specs.Plain.{SystemPlain, PlanPlain, stated-plain, planned-plain}
use Rattle.ranges.specs.Floorless.{SystemFloorless, stated-floorless}
use Rattle.ranges.specs.Barless.{SystemBarless, PlanBarless, stated-barless, planned-barless}
use Rattle.theorems.proofs.BarsAsBefore.{bars-written, judged-on-one, bars-judged}
use Rattle.theorems.proofs.Plain.{surplus-real, breaches-as-before}
use Rattle.theorems.proofs.Floorless as Floorless
use Rattle.theorems.proofs.Floorless.{ours-as-before}

-- ---- a plan for a case whose blocks have no floors
module _ (x : Stated) (p : Plan) (h : SystemFloorless x.case.system) where
  surplus-without : O.our_surplus x.case p ≡ F.our_surplus x.case p
  unfolding O.our_surplus F.our_surplus
  surplus-without = ap (λ (y : Completion ℕ). surplus_of x.case p (whole y)) (ours-as-before x.case p h)

  bytes-without : O.completion_bytes x p ≡ F.completion_bytes x p
  unfolding O.completion_bytes F.completion_bytes
  bytes-without =
      let q = x.case.system in
      ap₂ (λ (y : Completion ℕ) (z : ℤ). bytes ((completion_by (widths_of x.edition) x.edition (counts_of q) (energy_windows q)).write (written q y z)))
      (ours-as-before x.case p h) surplus-without

  pub judged-without : (buffer : List ℕ) → O.judged x p buffer ≡ F.judged x p buffer
  unfolding O.judged F.judged
  judged-without buffer = rw (bytes-without, Floorless.breaches-as-before x.case.system p h, surplus-without) refl

-- what came later is lacking too
older : (e : ℕ) → has 3 e ≡ false → has 5 e ≡ false
older e h = has-not 5 e (let l = leb-false 3 e h in omega arith)

-- a case of edition 1 or 2 that passes reading, with any plan and any buffer, is judged as before there were floors: the same verdict, and the same bytes in the buffer
pub older-judged : (l : Largest) → l.devices ≤ most_devices → l.intervals ≤ most_intervals → (cs : List ℕ) (x : Stated) → stated_in l cs ≡ passes x → has 3 x.edition ≡ false
    → (ps buffer : List ℕ) → J.with_plan x buffer (J.read_plan x ps) ≡ F.with_plan x buffer (J.read_plan x ps)
older-judged l most long cs x e k ps buffer = bars-judged l most long cs x e (older x.edition k) ps buffer ∙ go (J.read_plan x ps)
  where
    go : (r : Whole Plan) → O.with_plan x buffer r ≡ F.with_plan x buffer r
    go (passes p) = judged-without x p (stated-floorless l most long cs x e k) buffer
    go (fails f) = refl

-- ---- a plan for a case of edition 1

-- neither knows reactive power, and blocks have no floors
module _ (c : Case) (p : Plan) (hf : SystemFloorless c.system) (hs : SystemPlain c.system) (hp : PlanPlain p) (hb : SystemBarless c.system) (hd : PlanBarless p) where
  bytes-as-before : F.completion_bytes (stated 1 c) p ≡ P.completion_bytes c p
  unfolding F.completion_bytes P.completion_bytes P.our_surplus
  bytes-as-before =
      let q = c.system in
      ap bytes (sym (bars-written small_widths 1 refl (counts_of q) (energy_windows q) (written q (F.ours c p) (F.our_surplus c p)))
      ∙ completion-as (counts_of q) (energy_windows q) (written q (F.ours c p) (F.our_surplus c p))
      ∙ ap (λ (z : ℤ). (completion_of q).write (written q (F.ours c p) z)) (surplus-real c p hs hp))

  judged-plain : (buffer : List ℕ) → F.judged (stated 1 c) p buffer ≡ P.judged c p buffer
  unfolding F.judged P.judged P.our_surplus
  judged-plain buffer = rw (bytes-as-before, breaches-as-before c.system p hs hp, surplus-real c p hs hp) refl

  judged-as-before : (buffer : List ℕ) → J.judged (stated 1 c) p buffer ≡ P.judged c p buffer
  judged-as-before buffer = judged-on-one (stated 1 c) p refl hb hd buffer ∙ judged-without (stated 1 c) p hf buffer ∙ judged-plain buffer

plan-as-before : (c : Case) → SystemFloorless c.system → SystemPlain c.system → SystemBarless c.system → (ps buffer : List ℕ) (r : Whole Plan) → planned_in 1 c.system ps ≡ r
    → J.with_plan (stated 1 c) buffer r ≡ P.with_plan c buffer r
plan-as-before c hf hs hb ps buffer (passes p) e = judged-as-before c p hf hs (planned-plain 1 refl c.system ps p e) hb (planned-barless 1 refl c.system ps p e) buffer
plan-as-before c hf hs hb ps buffer (fails f) e = refl

case-as-before : (ps buffer : List ℕ) (r : Whole Case) → ((c : Case) → r ≡ passes c → SystemFloorless c.system × SystemPlain c.system × SystemBarless c.system)
    → J.with_case ps buffer (map_whole (stated 1) r) ≡ P.with_case ps buffer r
case-as-before ps buffer (passes c) plain =
    let e = planned-as-before c.system ps in
    let h = plain c refl in
    ap (J.with_plan (stated 1 c) buffer) e ∙ plan-as-before c h.0 h.1 h.2 ps buffer (read_plan c.system ps) e
case-as-before ps buffer (fails f) plain = refl

-- ---- by any reader that takes all that edition 1 allows

-- for every list of bytes whose edition is 1, whatever is the newest
read-as-before : (l : Largest) → device_limit 1 ≤ l.devices → interval_limit 1 ≤ l.intervals → (s : List ℕ) → edition_of s ≡ 1 → stated_in l s ≡ map_whole (stated 1) (read_case s)
unfolding stated_in read_case
read-as-before l h k s e = whole-as _ _ _ _ case-checked s (λ next. edition1-reads l h k s e fails next)

module _ (l : Largest) (h : device_limit 1 ≤ l.devices) (k : interval_limit 1 ≤ l.intervals) where
  pub edition1-as-before : (s : List ℕ) → edition_of s ≡ 1 → stated_in l s ≡ map_whole (stated 1) (read_case s)
  edition1-as-before s e = read-as-before l h k s e

  -- a case of edition 1 is written as before
  pub case-written-as-before : (c : Case) → (case_layout l).write (stated 1 c) ≡ (M.case_layout edition1).write c
  unfolding case_layout first held ◌then◌ nat
  case-written-as-before c = (first-as l h k).writes c

  -- a case of edition 1 has no floors and knows no reactive power
  edition1-plain : (cs : List ℕ) → edition_of cs ≡ 1 → (c : Case) → read_case cs ≡ passes c → SystemFloorless c.system × SystemPlain c.system × SystemBarless c.system
  edition1-plain cs e c r =
      let p : stated_in batch cs ≡ passes (stated 1 c) = read-as-before batch (omega arith) (omega arith) cs e ∙ ap (map_whole (stated 1)) r in (
        stated-floorless batch (omega arith) (omega arith) cs (stated 1 c) p refl,
        stated-plain batch (omega arith) (omega arith) cs (stated 1 c) p refl,
        stated-barless batch (omega arith) (omega arith) cs (stated 1 c) p refl,
      )

  -- a case whose edition is 1, with any plan and any buffer, is judged as before: the same verdict, and the same bytes in the buffer
  pub edition1-judged : (cs ps buffer : List ℕ) → edition_of cs ≡ 1 → J.judgement l cs ps buffer ≡ P.judgement cs ps buffer
  unfolding J.judgement P.judgement
  edition1-judged cs ps buffer e = ap (J.with_case ps buffer) (edition1-as-before cs e) ∙ case-as-before ps buffer (read_case cs) (edition1-plain cs e)
