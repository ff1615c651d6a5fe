-- A message written anew passes reading and holds the same figures; one of the newest edition is written as its own bytes; content and written bytes go together; and the verdict stays.
use Rattle.std.specs.Prelude.{◌≡◌, ◌↔◌, List, ℕ, ◌≤◌, ◌<◌, length}
use Rattle.std.proofs.Math.Path.{refl, ap}
use Rattle.std.proofs.Common.{sym, ◌∙◌, arith}
use borrow.Author.Tests.{le-leb}
use Rattle.numbers.specs.Sum.{All}
use Rattle.layouts.specs.Layout.{passes, bytes, nat, ◌then◌, held, read_whole}
use Rattle.layouts.specs.Sure.{Any}
use Rattle.layouts.specs.Trip.{length-bytes}
use Rattle.model.specs.Case.{Plan}
use Rattle.model.specs.Forced.{intervals, devices}
use Rattle.model.specs.Editions.{newest, Largest, host, most_devices, most_intervals}
use Rattle.model.specs.ByEdition as B
use Rattle.model.specs.ByEdition.{Stated, stated_in, planned_in}
use Rattle.model.specs.Judgement.{read_plan, verdict, accepts, judgement, judged, completion_bytes}
use Rattle.model.specs.Lists.{listings, listed}
use Rattle.writing.specs.Anew.{anew, case_bytes, rows_bytes, plan_bytes}
use Rattle.writing.specs.Again.{Fit, Reads}
use Rattle.writing.proofs.Again.{fit_then, fit-held, fit-nat, only-fits, pair_reads, then-reads, held_reads, nat-reads}
use Rattle.writing.proofs.Again.{only-reads, own-bytes, whole-reads, fit-whole}
use Rattle.writing.specs.Cases.{Small}
use Rattle.writing.proofs.Cases.{content-again}
use Rattle.writing.specs.Plans.{Held, Rows, Open, open_plan, opened}
use Rattle.writing.proofs.Plans.{plan-rows, plan-fits, open-writes, open-fits}
use Rattle.writing.specs.Same.{Kept, PlanContent, content_of, q}

-- what is written does not depend on the reader
pub alike : (l m : Largest) (x : Stated) → (B.case_layout l).write x ≡ (B.case_layout m).write x
unfolding B.case_layout B.content_by B.counts_by held ◌then◌ nat
alike l m x = refl

module _ (l : Largest) where
  pub case-reads : Reads (B.case_layout l) Any (Kept l)
  unfolding B.case_layout
  case-reads = held_reads _ _ _ _ Any _ _
      (pair_reads _ _ _ _ _ _ (only-reads 4 B.case_kind _) (then-reads (nat B.edition_field) (λ e. B.content e l) _ (λ e. Small) _ (λ e. Fit (B.content newest l) 2624894)
      (nat-reads B.edition_field) (λ e ok. content-again e newest ok.1 l)))
      (λ v ok. tt)
      (λ v ok. rw (sym ok.0) refl)
      (λ v ok r. record { edition = ok.1.0.1; small = ok.1.1; fits = r.1.1 })

  pub newest-fits : (x : Stated) → Kept l x → Fit (B.case_layout l) 2624902 (anew x.case)
  unfolding B.case_layout
  newest-fits x k = fit-held _ _ {a = (B.case_kind, (newest, x.case))} refl
      (fit_then _ (only-fits 4 B.case_kind _ (omega arith)) (fit_then (λ e. B.content e l) (fit-nat B.edition_field newest (omega arith) (omega arith) (omega arith)) k.fits))

  module _ (s : List ℕ) (x : Stated) (h : stated_in l s ≡ passes x) where
    pub kept : Kept l x
    unfolding stated_in
    kept = whole-reads (B.case_layout l) Any (Kept l) case-reads s x h

    -- "The written message passes reading, holds the same figures field by field"
    pub case-again : stated_in l (case_bytes x.case) ≡ passes (anew x.case)
    unfolding stated_in case_bytes
    case-again = rw (alike host l (anew x.case)) (fit-whole (B.case_layout l) 2624902 (anew x.case) (omega arith) (newest-fits x kept))

    -- "Writing an edition 5 message gives its own bytes"
    pub case-own : All (λ b. b < 256) s → x.edition ≡ newest → case_bytes x.case ≡ s
    unfolding stated_in case_bytes
    case-own small e =
        let g : anew x.case ≡ x = rw (sym e) refl in
        rw (g, alike host l x) (own-bytes (B.case_layout l) Any (Kept l) case-reads s small x h)

    -- no case takes more
    pub case-size : length (case_bytes x.case) ≤ 328113
    unfolding case_bytes
    case-size =
        rw (alike host l (anew x.case)) (omega (arith, length-bytes ((B.case_layout l).write (anew x.case)), (newest-fits x kept).size))

  -- "Two such messages, missing figures taken as neutral, hold equal content exactly when their written forms are the same bytes"
  pub case-equal : (s t : List ℕ) (x y : Stated) → stated_in l s ≡ passes x → stated_in l t ≡ passes y → (x.case ≡ y.case) ↔ (case_bytes x.case ≡ case_bytes y.case)
  case-equal s t x y h k = (
    λ e. ap case_bytes e,
    λ e.
        let g : passes (anew x.case) ≡ passes (anew y.case) = sym (case-again s x h) ∙ ap (stated_in l) e ∙ case-again t y k in
        let i : anew x.case ≡ anew y.case = cc in
        ap (λ (z : Stated). z.case) i,
  )

-- ---- a plan with its case

-- a plan of any edition and of so many devices and intervals fits the newest
pub rows_fit : (e d n : ℕ) → e ≤ newest → d ≤ most_devices → n ≤ most_intervals → (s : List ℕ) (p : Plan) → read_whole (B.plan_layout e d n) s ≡ passes p
    → Fit (B.plan_layout newest d n) 1267414 p
rows_fit e d n old few short s p g = plan-fits newest d n (record { edition = omega arith; devices = omega arith; intervals = omega arith }) p
    (whole-reads _ Any _ (plan-rows e newest old d n few short) s p g)

module _ (l : Largest) (cs : List ℕ) (x : Stated) (h : stated_in l cs ≡ passes x) (ps : List ℕ) (p : Plan) (k : read_plan x ps ≡ passes p) where
  counts : Held newest (devices (q l cs x h ps p k)) (intervals (q l cs x h ps p k))
  counts = let g = kept l cs x h in record { edition = omega arith; devices = omega (arith, g.small.devices); intervals = omega (arith, g.small.intervals) }

  reads : Reads (B.plan_layout x.edition (devices (q l cs x h ps p k)) (intervals (q l cs x h ps p k))) Any (Rows newest (devices (q l cs x h ps p k)) (intervals (q l cs x h ps p k)))
  reads = let g = kept l cs x h in plan-rows x.edition newest g.edition (devices (q l cs x h ps p k)) (intervals (q l cs x h ps p k)) g.small.devices g.small.intervals

  rows : Rows newest (devices (q l cs x h ps p k)) (intervals (q l cs x h ps p k)) p
  unfolding planned_in
  rows = whole-reads _ Any _ reads ps p k

  pub plan-fits-newest : Fit (B.plan_layout newest (devices (q l cs x h ps p k)) (intervals (q l cs x h ps p k))) 1267414 p
  plan-fits-newest = plan-fits newest (devices (q l cs x h ps p k)) (intervals (q l cs x h ps p k)) counts p rows

  -- the written plan passes reading with the written case, and holds the same figures
  pub plan-again : read_plan (anew x.case) (plan_bytes (q l cs x h ps p k) p) ≡ passes p
  unfolding planned_in rows_bytes
  plan-again = fit-whole _ 1267414 p (omega arith) plan-fits-newest

  -- one of the newest edition is its own bytes
  pub plan-own : All (λ b. b < 256) ps → x.edition ≡ newest → plan_bytes (q l cs x h ps p k) p ≡ ps
  unfolding planned_in rows_bytes
  plan-own small e = ap (λ (n : ℕ). bytes ((B.plan_layout n (devices (q l cs x h ps p k)) (intervals (q l cs x h ps p k))).write p)) (sym e) ∙ own-bytes _ Any _ reads ps small p k

  -- no plan takes more
  pub plan-size : length (plan_bytes (q l cs x h ps p k) p) ≤ 158427
  unfolding rows_bytes
  plan-size = omega (arith, length-bytes ((B.plan_layout newest (devices (q l cs x h ps p k)) (intervals (q l cs x h ps p k))).write p), plan-fits-newest.size)

  -- read without knowing its counts
  open-again : read_whole (open_plan newest) (plan_bytes (q l cs x h ps p k) p) ≡ passes (opened newest (devices (q l cs x h ps p k)) (intervals (q l cs x h ps p k)) p)
  unfolding rows_bytes
  open-again = rw (sym (open-writes newest (devices (q l cs x h ps p k)) (intervals (q l cs x h ps p k)) p)) (fit-whole (open_plan newest) 1267414 _ (omega arith) (open-fits newest (devices (q l cs x h ps p k)) (intervals (q l cs x h ps p k)) counts p rows))

  -- "with result buffers long enough, the written pair's verdict is the old pair's, place included"
  pub verdict-same : (room space : ℕ) → length (completion_bytes x p) ≤ room → length (completion_bytes (anew x.case) p) ≤ space → verdict (anew x.case) p space ≡ verdict x p room
  unfolding verdict accepts
  verdict-same room space i j = rw (le-leb _ _ i, le-leb _ _ j) refl

  -- the same on bytes
  pub judged-same : (buffer other : List ℕ) → length (completion_bytes x p) ≤ length buffer → length (completion_bytes (anew x.case) p) ≤ length other
      → (judgement l (case_bytes x.case) (plan_bytes (q l cs x h ps p k) p) other).verdict ≡ (judgement l cs ps buffer).verdict
  unfolding judgement judged
  judged-same buffer other i j = rw (case-again l cs x h, plan-again, h, k) (verdict-same (length buffer) (length other) i j)

  -- and every broken rule, whatever the list's buffer
  pub listed_same : (buffer : List ℕ) → listings l (case_bytes x.case) (plan_bytes (q l cs x h ps p k) p) buffer ≡ listings l cs ps buffer
  unfolding listings listed
  listed_same buffer = rw (case-again l cs x h, plan-again, h, k) refl

-- two plans, each with its case
pub plan-equal : (l : Largest) (cs : List ℕ) (x : Stated) (h : stated_in l cs ≡ passes x) (ps : List ℕ) (p : Plan) (k : read_plan x ps ≡ passes p)
    (ds : List ℕ) (y : Stated) (i : stated_in l ds ≡ passes y) (rs : List ℕ) (r : Plan) (j : read_plan y rs ≡ passes r)
    → (content_of x.case.system p ≡ content_of y.case.system r) ↔ (plan_bytes x.case.system p ≡ plan_bytes y.case.system r)
unfolding rows_bytes
plan-equal l cs x h ps p k ds y i rs r j = (
  λ e. ap (λ (c : PlanContent). bytes ((B.plan_layout newest c.devices c.intervals).write c.plan)) e,
  λ e.
      let g : passes (opened newest (devices x.case.system) (intervals x.case.system) p) ≡ passes (opened newest (devices y.case.system) (intervals y.case.system) r)
      = sym (open-again l cs x h ps p k) ∙ ap (read_whole (open_plan newest)) e ∙ open-again l ds y i rs r j in
      let o : opened newest (devices x.case.system) (intervals x.case.system) p ≡ opened newest (devices y.case.system) (intervals y.case.system) r = cc in
      ap (λ (v : Open). record { devices = v.1.1.0; intervals = v.1.1.1.0; plan = record { settings = v.1.1.1.1.0; flows = v.1.1.1.1.1 } }) o,
)
