-- "What the unit gives back", on the messages of a case and a plan, in every edition and for every reader: a message that passes and is broken off, one that passes
-- and runs on, and the field of every refusal.
use Rattle.std.specs.Prelude.{◌≡◌, List, ◌++◌, ℕ, ◌*◌, ◌<◌, length, take}
use Rattle.std.proofs.Math.Path.{ap}
use Rattle.std.proofs.Common.{◌∙◌}
use Rattle.layouts.specs.declared.Fault.{Fault}
use Rattle.layouts.specs.declared.Fault.TheVariants as F
use Rattle.layouts.specs.Faults.{number_of}
use Rattle.layouts.specs.Layout.{Layout, passes, fails, begin}
use Rattle.model.specs.declared.Subject.TheVariants as S
use Rattle.model.specs.declared.Verdict.TheVariants.{Refused}
use Rattle.model.specs.Case.{Plan}
use Rattle.model.specs.Forced.{intervals, devices}
use Rattle.model.specs.Editions.{Largest}
use Rattle.model.specs.ByEdition as B
use Rattle.model.specs.ByEdition.{Stated, stated_in, planned_in}
use Rattle.model.specs.Judgement.{read_plan, judgement, refused_as, with_plan, with_case}
use Rattle.refusals.specs.Visited.{Part, AllGood, FieldTold}
use Rattle.refusals.proofs.Traced.{Traced}
use Rattle.refusals.proofs.Whole.{BrokenOff, Refusal, Wrong, Faultless, broken-off, run_on, refusal, field_of, field-wrong, passes-faultless, faultless-passes}
use Rattle.refusals.proofs.Messages.{case-traced, plan-traced}

-- how the plans of a case are laid out, and their fields
abbrev pub plan_of : Stated → Layout Plan
plan_of x = B.plan_layout x.edition (devices x.case.system) (intervals x.case.system)

abbrev pub plan-of : (x : Stated) → Traced (plan_of x)
plan-of x = plan-traced x.edition (devices x.case.system) (intervals x.case.system)

-- the fields of a message in order: all of them where it passes reading, else up to the one that is refused
abbrev pub case_fields : Largest → List ℕ → List Part
case_fields l s = (case-traced l).fields s begin

abbrev pub plan_fields : Stated → List ℕ → List Part
plan_fields x s = (plan-of x).fields s begin

-- ---- broken off

abbrev pub CaseBrokenOff : Largest → List ℕ → ℕ → Type 0
CaseBrokenOff l s k = BrokenOff (B.case_layout l) (case-traced l) s k

abbrev pub PlanBrokenOff : Stated → List ℕ → ℕ → Type 0
PlanBrokenOff x s k = BrokenOff (plan_of x) (plan-of x) s k

-- every proper beginning of a case that passes reading is refused by 1, at the first bit of the first field that is not whole
pub case-broken-off : (l : Largest) (s : List ℕ) (x : Stated) → stated_in l s ≡ passes x → (k : ℕ) → k < length s → CaseBrokenOff l s k
unfolding stated_in
case-broken-off l s x h k n = broken-off (B.case_layout l) (case-traced l) s x h k n

pub case-cut : (l : Largest) (s : List ℕ) (x : Stated) (h : stated_in l s ≡ passes x) (k : ℕ) (n : k < length s) → stated_in l (take k s) ≡ fails (F.Cut (case-broken-off l s x h k n).bit)
unfolding stated_in
case-cut l s x h k n = (case-broken-off l s x h k n).refused

-- and of a plan
pub plan-broken-off : (x : Stated) (s : List ℕ) (p : Plan) → read_plan x s ≡ passes p → (k : ℕ) → k < length s → PlanBrokenOff x s k
unfolding planned_in
plan-broken-off x s p h k n = broken-off (plan_of x) (plan-of x) s p h k n

pub plan-cut : (x : Stated) (s : List ℕ) (p : Plan) (h : read_plan x s ≡ passes p) (k : ℕ) (n : k < length s) → read_plan x (take k s) ≡ fails (F.Cut (plan-broken-off x s p h k n).bit)
unfolding planned_in
plan-cut x s p h k n = (plan-broken-off x s p h k n).refused

-- ---- run on

-- a case that passes reading, with any bytes behind it, is refused by 6, at the first bit of the first of them
pub case-run-on : (l : Largest) (s : List ℕ) (x : Stated) → stated_in l s ≡ passes x → (e : List ℕ) → 0 < length e → stated_in l (s ++ e) ≡ fails (F.Tail (8 * length s))
unfolding stated_in
case-run-on l s x h e n = run_on (B.case_layout l) (case-traced l) s x h e n

-- and a plan
pub plan-run-on : (x : Stated) (s : List ℕ) (p : Plan) → read_plan x s ≡ passes p → (e : List ℕ) → 0 < length e → read_plan x (s ++ e) ≡ fails (F.Tail (8 * length s))
unfolding planned_in
plan-run-on x s p h e n = run_on (plan_of x) (plan-of x) s p h e n

-- ---- the field of a refusal

abbrev pub CaseRefusal : Largest → List ℕ → Fault → Type 0
CaseRefusal l s f = Refusal (B.case_layout l) (case-traced l) s f

abbrev pub PlanRefusal : Stated → List ℕ → Fault → Type 0
PlanRefusal x s f = Refusal (plan_of x) (plan-of x) s f

pub case-refusal : (l : Largest) (s : List ℕ) (f : Fault) → stated_in l s ≡ fails f → CaseRefusal l s f
unfolding stated_in
case-refusal l s f h = refusal (B.case_layout l) (case-traced l) s f h

pub plan-refusal : (x : Stated) (s : List ℕ) (f : Fault) → read_plan x s ≡ fails f → PlanRefusal x s f
unfolding planned_in
plan-refusal x s f h = refusal (plan_of x) (plan-of x) s f h

-- 1 to 4 are of the last field visited
pub case-field : (l : Largest) (s : List ℕ) (f : Fault) → stated_in l s ≡ fails f → number_of f < 5 → FieldTold s (case_fields l s) f
unfolding stated_in
case-field l s f h n = field_of (B.case_layout l) (case-traced l) s f h n

pub plan-field : (x : Stated) (s : List ℕ) (f : Fault) → read_plan x s ≡ fails f → number_of f < 5 → FieldTold s (plan_fields x s) f
unfolding planned_in
plan-field x s f h n = field_of (plan_of x) (plan-of x) s f h n

-- where one of the fields visited is cut or out of its range, the message is refused for it
pub case-field-wrong : (l : Largest) (s : List ℕ) → ¬ AllGood s 0 (case_fields l s) → Wrong (B.case_layout l) (case-traced l) s
case-field-wrong l s h = field-wrong (B.case_layout l) (case-traced l) s h

pub plan-field-wrong : (x : Stated) (s : List ℕ) → ¬ AllGood s 0 (plan_fields x s) → Wrong (plan_of x) (plan-of x) s
plan-field-wrong x s h = field-wrong (plan_of x) (plan-of x) s h

-- "A message passes reading when none of numbers 1 to 6 is found in it": just where every field is whole and in its range, no bit behind the last is wrong, and none
-- contradicts an earlier one
abbrev pub CaseFaultless : Largest → List ℕ → Type 0
CaseFaultless l s = Faultless (B.case_layout l) (case-traced l) s

abbrev pub PlanFaultless : Stated → List ℕ → Type 0
PlanFaultless x s = Faultless (plan_of x) (plan-of x) s

pub case-faultless : (l : Largest) (s : List ℕ) (x : Stated) → stated_in l s ≡ passes x → CaseFaultless l s
unfolding stated_in
case-faultless l s x h = passes-faultless (B.case_layout l) (case-traced l) s x h

pub case-passes : (l : Largest) (s : List ℕ) → CaseFaultless l s → (x : Stated) × (stated_in l s ≡ passes x)
unfolding stated_in
case-passes l s h = faultless-passes (B.case_layout l) (case-traced l) s h

pub plan-faultless : (x : Stated) (s : List ℕ) (p : Plan) → read_plan x s ≡ passes p → PlanFaultless x s
unfolding planned_in
plan-faultless x s p h = passes-faultless (plan_of x) (plan-of x) s p h

pub plan-passes : (x : Stated) (s : List ℕ) → PlanFaultless x s → (p : Plan) × (read_plan x s ≡ passes p)
unfolding planned_in
plan-passes x s h = faultless-passes (plan_of x) (plan-of x) s h

-- ---- as judged: the case first, then the plan; the result buffer stays as it was

module _ (l : Largest) (cs : List ℕ) (x : Stated) (h : stated_in l cs ≡ passes x) where
  pub judged-case-broken-off : (k : ℕ) (n : k < length cs) (ps buffer : List ℕ)
      → judgement l (take k cs) ps buffer ≡ refused_as (Refused S.Case (F.Cut (case-broken-off l cs x h k n).bit)) buffer
  unfolding judgement
  judged-case-broken-off k n ps buffer = ap (with_case ps buffer) (case-cut l cs x h k n)

  pub judged-case-run-on : (e : List ℕ) → 0 < length e → (ps buffer : List ℕ) → judgement l (cs ++ e) ps buffer ≡ refused_as (Refused S.Case (F.Tail (8 * length cs))) buffer
  unfolding judgement
  judged-case-run-on e n ps buffer = ap (with_case ps buffer) (case-run-on l cs x h e n)

  module _ (ps : List ℕ) (p : Plan) (g : read_plan x ps ≡ passes p) where
    pub judged-plan-broken-off : (k : ℕ) (n : k < length ps) (buffer : List ℕ)
        → judgement l cs (take k ps) buffer ≡ refused_as (Refused S.Plan (F.Cut (plan-broken-off x ps p g k n).bit)) buffer
    unfolding judgement
    judged-plan-broken-off k n buffer = ap (with_case (take k ps) buffer) h ∙ ap (with_plan x buffer) (plan-cut x ps p g k n)

    pub judged-plan-run-on : (e : List ℕ) → 0 < length e → (buffer : List ℕ) → judgement l cs (ps ++ e) buffer ≡ refused_as (Refused S.Plan (F.Tail (8 * length ps))) buffer
    unfolding judgement
    judged-plan-run-on e n buffer = ap (with_case (ps ++ e) buffer) h ∙ ap (with_plan x buffer) (plan-run-on x ps p g e n)
