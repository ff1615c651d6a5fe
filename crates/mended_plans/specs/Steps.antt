-- The steps of mending a plan's bytes against a decoded case: refused in reading; no rule broken; a rule broken.
use Rattle.std.specs.Prelude.{Ok, Err, ◌≡◌, refl, List, ℕ, ◌*◌, ◌≤◌, length, ℤ}
use Rattle.std.proofs.Common.{sym, ap, ◌∙◌, subst, arith, mul-le-mul}
use Rattle.numbers.specs.Ranges.{sum-few}
use Rattle.layouts.specs.declared.Fault.{Fault}
use Rattle.layouts.specs.Layout.{passes, fails}
use Rattle.model.specs.declared.Breach.{Breach}
use Rattle.model.specs.declared.Subject.TheVariants as S
use Rattle.model.specs.Case.{Plan, System}
use Rattle.model.specs.Breaches.{breaches}
use Rattle.model.specs.ByEdition.{Stated}
use Rattle.model.specs.Editions.{most_zones, most_windows}
use Rattle.model.specs.Judgement.{read_plan, our_surplus}
use Rattle.message_ends.specs.Ended.{Ending, ended}
use Rattle.row_places.specs.declared.Front.{Front}
use Rattle.row_places.specs.Figures.{energies_at}
use Rattle.records.specs.Views.{system_in, plan_in, most_devices}
use Rattle.plan_header.specs.Plans.{PlanDone}
use Rattle.powers.specs.Fleet.{Forced}
use Rattle.completion_size.specs.Size.{interval_width, counts-few, interval-few}
use Rattle.completions.specs.Windows.{Few, FewWindows, few-windows, windows_up_to}
use Rattle.completions.specs.Whole.{needed_for}
use Rattle.breaches.specs.First.{first}
use Rattle.std.specs.Prelude.{Option, Some, None}
use Rattle.decoded_cases.specs.Decoded.{Decoded, Planned, stated_rows}
use Rattle.decoded_cases.specs.Plans.{plan-read}
use Rattle.market_copies.specs.Steps.{most_bytes}
use Rattle.mending.specs.declared.Mending.{Mending}
use Rattle.mending.specs.declared.Mending.TheVariants.{Accepted, Refused}
use Rattle.mending.specs.Mending.{most_online}
use Rattle.mending.specs.Mendings.{told, mending_of, mend_plan, PlanPromise}
use Rattle.mending.proofs.Mendings.{plan-promise}
use Rattle.mending_theorems.specs.Answer.{mended_from}
use Rattle.mend_tries.specs.Tries.{Judgeable}
use Rattle.mend_plans.specs.Broken as B

-- ---- room for any completion

few-overruns : {devices : List (List ℕ)} → FewWindows devices → windows_up_to devices (length devices) ≤ most_devices * most_windows
unfolding windows_up_to
few-overruns {devices} f = sum-few (energies_at devices) most_windows (length devices) most_devices f.few f.each

-- no completion of a case's plans takes more bytes
pub most-needed : (e : ℕ) {halves : List ℕ} {zones devices : List (List ℕ)} → Few halves zones devices → needed_for e halves zones devices ≤ most_bytes
most-needed e {halves} {zones} {devices} f =
    let w : interval_width e (length devices) (length zones) ≤ 5820 = omega (arith, interval-few e (length devices) (length zones) most_devices most_zones f.few-devices f.few-zones) in
    omega (arith, (counts-few e).0, (counts-few e).1, mul-le-mul f.few-intervals w, few-overruns (few-windows f))

-- ---- a decoded plan

module _ (front : Front) (halves : List ℕ) (zones minima devices cells settings : List (List ℕ)) where
  abbrev q : System
  q = system_in halves zones minima devices cells

  abbrev p : Plan
  p = plan_in (length devices) (length halves) settings

  abbrev x : Stated
  x = stated_rows front halves zones minima devices cells

  pub judgeable : {starts powers times forced : List ℕ} → Planned front halves zones minima devices cells settings starts powers → Forced halves devices cells settings times forced
      → Judgeable front halves zones minima devices cells settings times forced
  judgeable d f = let r = f.rows zones minima in
      record { case_rows = d.decoded.rows; plan-rows = d.plan-rows; starts-full = omega (arith, r.starts-full); powers-full = r.powers-full }

  pub mends-accepted : {k : Option Breach} {z : ℤ} → k ≡ first (breaches q p) → k ≡ None → z ≡ our_surplus x.case p → Accepted z ≡ mending_of x p
  mends-accepted e f g = B.mends-accepted halves zones minima devices cells settings front.edition x.case.prices e f (ap Accepted g)

  pub mends-broken : {k : Option Breach} {b : Breach} {r : Mending} → k ≡ first (breaches q p) → k ≡ Some b → r ≡ told (mended_from most_online q p b) → r ≡ mending_of x p
  mends-broken e f g = B.mends-broken halves zones minima devices cells settings front.edition x.case.prices e f g

-- ---- a plan's bytes

-- the definition's answer, with its promise
pub record MendsPlan (front : Front) (halves : List ℕ) (zones minima devices cells : List (List ℕ)) (ps : List ℕ) (r : Mending) : Type 0 where
  pub answer : r ≡ mend_plan (stated_rows front halves zones minima devices cells) (read_plan (stated_rows front halves zones minima devices cells) ps)
  pub promise : PlanPromise (stated_rows front halves zones minima devices cells) ps r

module _ {front : Front} {halves : List ℕ} {zones minima devices cells : List (List ℕ)} (d : Decoded front halves zones minima devices cells)
    (ps : List ℕ) (settings : List (List ℕ)) (e : Ending) (h : PlanDone front.edition (length devices) (length halves) ps settings e) where
  abbrev stated : Stated
  stated = stated_rows front halves zones minima devices cells

  abbrev planned : Plan
  planned = plan_in (length devices) (length halves) settings

  mends-plan : {r : Mending} → r ≡ mend_plan stated (read_plan stated ps) → MendsPlan front halves zones minima devices cells ps r
  mends-plan g = record { answer = g; promise = subst (PlanPromise stated ps) (sym g) (plan-promise stated ps) }

  pub plan-fails : {f : Fault} → e ≡ Err f → MendsPlan front halves zones minima devices cells ps (Refused S.Plan f)
  plan-fails {f} t =
      let g : read_plan stated ps ≡ fails f = sym (plan-read d ps settings e h) ∙ ap (ended planned) t in
      mends-plan (rw g refl)

  pub plan-passes : {r : Mending} → e ≡ Ok tt → r ≡ mending_of stated planned → MendsPlan front halves zones minima devices cells ps r
  plan-passes t k =
      let g : read_plan stated ps ≡ passes planned = sym (plan-read d ps settings e h) ∙ ap (ended planned) t in
      mends-plan (rw g k)
