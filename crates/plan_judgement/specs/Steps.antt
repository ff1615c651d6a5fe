-- The steps of judging a plan's bytes: refused in reading; a rule broken; none broken.
use Rattle.std.specs.Prelude.{Ok, Err, ◌≡◌, refl, List, [], ◌∷◌, ℕ, length}
use Rattle.std.proofs.Common.{sym, ap, ◌∙◌, arith}
use Rattle.layouts.specs.declared.Fault.{Fault}
use Rattle.layouts.specs.Layout.{passes, fails}
use Rattle.model.specs.declared.Breach.{Breach}
use Rattle.model.specs.declared.Subject.TheVariants as S
use Rattle.model.specs.declared.Verdict.{Verdict}
use Rattle.model.specs.declared.Verdict.TheVariants.{Broken, Refused}
use Rattle.model.specs.Case.{Plan, System}
use Rattle.model.specs.ByEdition.{Stated}
use Rattle.model.specs.Breaches.{breaches}
use Rattle.model.proofs.Named.{none-every}
use Rattle.model.specs.Judgement.{verdict, unless_broken, read_plan}
use Rattle.message_ends.specs.Ended.{Ending, ended}
use Rattle.row_places.specs.declared.Front.{Front}
use Rattle.records.specs.Views.{system_in, plan_in, Ready}
use Rattle.plan_header.specs.Plans.{PlanDone}
use Rattle.breaches.specs.First.{first, none_first}
use Rattle.std.specs.Prelude.{Option, Some, None}
use Rattle.decoded_cases.specs.Decoded.{Decoded, stated_rows}
use Rattle.decoded_cases.specs.Plans.{plan-read}
use Rattle.acceptance.specs.Decided.{Decides, Kept, decides}
use Rattle.plan_judgement.specs.JudgesPlan.{JudgesPlan, judges-plan}

-- ---- the rules

breach-head : (bs : List Breach) (b : Breach) (v : Verdict) → first bs ≡ Some b → unless_broken bs v ≡ Broken b
unfolding first
breach-head [] b v e = absurd (let z : ◌≡◌ {A = ℕ} 0 1 = cc in omega (arith, z))
breach-head (x ∷ bs) b v e = let g : x ≡ b = cc in ap Broken g

broken-verdict : (x : Stated) (p : Plan) (room : ℕ) (b : Breach) → first (breaches x.case.system p) ≡ Some b → Broken b ≡ verdict x p room
unfolding verdict
broken-verdict x p room b e = sym (breach-head (breaches x.case.system p) b _ e)

module _ (front : Front) (halves : List ℕ) (zones minima devices cells settings : List (List ℕ)) where
  abbrev q : System
  q = system_in halves zones minima devices cells

  abbrev p : Plan
  p = plan_in (length devices) (length halves) settings

  -- the first rule broken
  pub decides-broken : (before : List ℕ) {k : Option Breach} {b : Breach} → k ≡ first (breaches q p) → k ≡ Some b
      → Decides front halves zones minima devices cells settings before before (Broken b)
  decides-broken before {k} {b} e f =
      decides front halves zones minima devices cells settings before (broken-verdict (stated_rows front halves zones minima devices cells) p (length before) b (sym e ∙ f)) refl

  -- none broken
  pub kept_of : {starts powers : List ℕ} → Decoded front halves zones minima devices cells → Ready front halves zones minima devices cells settings starts powers → {k : Option Breach}
      → k ≡ first (breaches q p) → k ≡ None → Kept front halves zones minima devices cells settings starts powers
  kept_of d r e f = record { unbroken = record { ready = r; rules = none-every q p (none_first (breaches q p) e f) }; countable = d.countable }

-- ---- a plan's bytes: refused in reading, or judged

module _ {front : Front} {halves : List ℕ} {zones minima devices cells : List (List ℕ)} (d : Decoded front halves zones minima devices cells)
    (ps : List ℕ) (settings : List (List ℕ)) (e : Ending) (h : PlanDone front.edition (length devices) (length halves) ps settings e) where
  abbrev stated : Stated
  stated = stated_rows front halves zones minima devices cells

  abbrev planned : Plan
  planned = plan_in (length devices) (length halves) settings

  pub plan-fails : (before : List ℕ) {f : Fault} → e ≡ Err f → JudgesPlan front halves zones minima devices cells ps before before (Refused S.Plan f)
  plan-fails before {f} t =
      let g : read_plan stated ps ≡ fails f = sym (plan-read d ps settings e h) ∙ ap (ended planned) t in
      judges-plan d (rw g refl) (rw g refl)

  pub plan-passes : {before after : List ℕ} {v : Verdict} → e ≡ Ok tt → Decides front halves zones minima devices cells settings before after v
      → JudgesPlan front halves zones minima devices cells ps before after v
  plan-passes t k =
      let g : read_plan stated ps ≡ passes planned = sym (plan-read d ps settings e h) ∙ ap (ended planned) t in
      judges-plan d (rw g k.verdict) (rw g k.result)
