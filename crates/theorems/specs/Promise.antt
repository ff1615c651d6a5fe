-- The three promises, on messages: what judging the bytes of a case and a plan gives back, for any bytes and any result buffer.
use Rattle.std.specs.Prelude.{◌≡◌, false, List, ℕ, ◌-◌, ◌≤◌, ◌<◌, drop, ℤ}
use Rattle.std.proofs.Math.Path.{refl}
use Rattle.std.proofs.Math.ListN.{length, take}
use Rattle.std.proofs.Math.IntN.{nat_abs}
use Rattle.layouts.specs.declared.Fault.{Fault}
use Rattle.model.specs.declared.Breach.{Breach}
use Rattle.model.specs.declared.Subject.{Subject}
use Rattle.model.specs.declared.Subject.TheVariants as S
use Rattle.model.specs.declared.Verdict.{Verdict}
use Rattle.model.specs.declared.Verdict.TheVariants.{Accepted, Broken, Refused}
use Rattle.model.specs.Case.{Case, Plan}
use Rattle.model.specs.Forced.{intervals, devices}
use Rattle.model.specs.Ours.{ours}
use Rattle.layouts.specs.Numbers.{Tells}
use Rattle.layouts.specs.Layout.{Layout, read_whole, passes, fails, bytes}
use Rattle.model.specs.Editions.{Largest}
use Rattle.model.specs.ByEdition as B
use Rattle.model.specs.ByEdition.{Stated, stated_in}
use Rattle.model.specs.Judgement.{Judged, verdict, buffer_after, read_plan, written, counts_of, completion_in, completion_bytes}
use Rattle.theorems.specs.Back.{Countable}
use Rattle.layouts.specs.Since.{has}
use Rattle.ranges.specs.Plain.{SystemPlain}
use Rattle.ranges.specs.Barless.{SystemBarless}
use Rattle.ranges.specs.Ranges.{CaseRange, PlanRange, planned-range}
use Rattle.theorems.specs.Sizes.{surplus_limit, floored}
use Rattle.refusals.proofs.Refusals.{CaseRefusal, PlanRefusal}
use Rattle.theorems.specs.Theorem.{Right, right-verdict}
use Rattle.theorems.specs.OfEdition.{RightOf, right_of}
use Rattle.theorems.specs.Chosen.{Holds}

-- ---- how long a message is
pub record Sized {A : Type 0} (l : Layout A) (P : A → Type 0) (n : ℕ) : Type 0 where
  pub size : (a : A) → P a → length (l.write a) ≤ n

-- ---- the promises

-- how the plans of a case are laid out
abbrev pub plan_of : Stated → Layout Plan
plan_of x = B.plan_layout x.edition (devices x.case.system) (intervals x.case.system)

-- what acceptance leaves in the result buffer: our completion with the surplus reported, as its message, and the rest as it was
pub record Wrote (x : Stated) (p : Plan) (z : ℤ) (before after : List ℕ) : Type 0 where
  pub reads : read_whole (completion_in x.edition x.case.system) (take (length (completion_bytes x p)) after) ≡ passes (written x.case.system (ours x.case p) z)
  pub bytes : take (length (completion_bytes x p)) after ≡ completion_bytes x p
  -- "the completion written meets every rule, has exactly the surplus reported": taken from these bytes, field by field
  pub holds : Holds x p z (take (length (completion_bytes x p)) after)
  pub rest : drop (length (completion_bytes x p)) after ≡ drop (length (completion_bytes x p)) before
  pub size : nat_abs z < surplus_limit

-- Item 1: a message s that does not pass reading is refused with its number and place, which `Tells` gives their meaning, and no byte of the result is touched
pub record RefusedBy {A : Type 0} (l : Layout A) (s : List ℕ) (which : Subject) (f : Fault) (before : List ℕ) (j : Judged) : Type 0 where
  pub verdict : j.verdict ≡ Refused which f
  pub number : Tells l s f
  pub untouched : j.result ≡ before

-- The same, and "Everything else, of any content, is judged", with items 2 and 3, for a plan's bytes against a case that passed reading; only acceptance writes.
pub record PlanPromise (x : Stated) (ps before : List ℕ) (j : Judged) : Type 0 where
  pub plan-refused : (f : Fault) → read_plan x ps ≡ fails f → RefusedBy (plan_of x) ps S.Plan f before j
  -- which field it is: 1 to 4 at the first that is cut or out of its range, 5 at the first that contradicts an earlier one
  pub plan-field : (f : Fault) → read_plan x ps ≡ fails f → PlanRefusal x ps f
  pub judges : (p : Plan) → read_plan x ps ≡ passes p → j.verdict ≡ verdict x p (length before)
  pub right : (p : Plan) → read_plan x ps ≡ passes p → Right x p (length before) j.verdict
  pub right_of : (p : Plan) → read_plan x ps ≡ passes p → RightOf x p j.verdict
  pub wrote : (p : Plan) (z : ℤ) → read_plan x ps ≡ passes p → j.verdict ≡ Accepted z → Wrote x p z before j.result
  pub broken-untouched : (b : Breach) → j.verdict ≡ Broken b → j.result ≡ before
  pub refused-untouched : (s : Subject) (f : Fault) → j.verdict ≡ Refused s f → j.result ≡ before

-- and for the bytes of a case and a plan, by a reader that takes counts up to these: "case, then plan"
pub record Promise (l : Largest) (cs ps before : List ℕ) (j : Judged) : Type 0 where
  pub case-refused : (f : Fault) → stated_in l cs ≡ fails f → RefusedBy (B.case_layout l) cs S.Case f before j
  pub case-field : (f : Fault) → stated_in l cs ≡ fails f → CaseRefusal l cs f
  pub case-passed : (x : Stated) → stated_in l cs ≡ passes x → PlanPromise x ps before j

pub untouched : (v : Verdict) (out before : List ℕ) → ((z : ℤ) → v ≡ Accepted z → ⊥) → buffer_after v out before ≡ before
untouched (Accepted z) out before h = absurd (h z refl)
untouched (Broken b) out before h = refl
untouched (Refused s f) out before h = refl

-- a case within its ranges, whose counts fit their fields, and which has nothing that its edition lacks
pub record Sound (x : Stated) : Type 0 where
  pub range : CaseRange x.case
  pub countable : Countable x.edition (counts_of x.case.system)
  pub plain : has 2 x.edition ≡ false → SystemPlain x.case.system
  pub barless : has 5 x.edition ≡ false → SystemBarless x.case.system

module _ (x : Stated) (ps : List ℕ) (p : Plan) (g : Sound x) (rp : read_plan x ps ≡ passes p) (room : ℕ) where
  abbrev pub c : Case
  c = x.case

  pub plan-in : PlanRange c.system p
  plan-in = planned-range x.edition c.system ps p rp

  pub right : Right x p room (verdict x p room)
  right = right-verdict x p (floored c.system p g.range.system plan-in) room
