-- Items 1 to 3 on one page, over bytes: cs are those of a case, ps of a plan, `before` the result buffer as it came; j is the verdict with the buffer as it is left.
-- `l` are the largest counts that the reader takes: `Editions.host` or `Editions.batch`. That all of it holds of the judgement is in `Audited`.
use Rattle.std.specs.Prelude.{◌≡◌, ℕ, ◌^◌, ◌≤◌, ◌<◌, length, take, drop, ℤ, nat_abs, ◌≤ℤ◌}
use mathlib.Core.List.{List, ◌++◌, Memᴰ}
use Rattle.numbers.specs.Every.{Ordered}
use Rattle.layouts.specs.declared.Fault.{Fault}
use Rattle.layouts.specs.Layout.{passes, fails}
use Rattle.layouts.specs.Numbers.{Tells}
use Rattle.model.specs.declared.Breach.{Breach}
use Rattle.model.specs.declared.Subject.{Subject}
use Rattle.model.specs.declared.Subject.TheVariants as S
use Rattle.model.specs.declared.Verdict.TheVariants.{Accepted, Broken, Refused}
use Rattle.model.specs.declared.Listing.TheVariants as L
use Rattle.model.specs.Case.{Plan}
use Rattle.model.specs.Editions.{Largest}
use Rattle.model.specs.ByEdition.{Stated, stated_in, case_layout, plan_layout}
use Rattle.model.specs.Forced.{intervals, devices}
use Rattle.model.specs.Rules.{EveryRule, Before}
use Rattle.model.specs.Breaches.{breaches}
use Rattle.model.specs.Named.{First, Failed}
use Rattle.model.specs.Completion.{Completion, Meets, surplus_of}
use Rattle.model.specs.Judgement.{Judged, read_plan, completion_bytes}
use Rattle.model.specs.Lists.{Listings, list_bytes}
use Rattle.theorems.specs.Theorem.{Short}
use Rattle.theorems.specs.Chosen.{Holds}
use Rattle.theorems.specs.OfEdition.{OfEdition}

-- the case that bytes state, in its edition; the plan for it
abbrev pub CaseIs : Largest → List ℕ → Stated → Type 0
CaseIs l cs x = stated_in l cs ≡ passes x

abbrev pub PlanIs : Stated → List ℕ → Plan → Type 0
PlanIs x ps p = read_plan x ps ≡ passes p

-- ---- item 1: refusals

-- what a refusal is for: `Tells` has what its number says of the message, `Short` that the result buffer is truly too short, by number 7 with the bytes needed
pub data Reason (l : Largest) (cs ps : List ℕ) (room : ℕ) (s : Subject) (f : Fault) : Type 0 where
  of-case : s ≡ S.Case → stated_in l cs ≡ fails f → Tells (case_layout l) cs f → Reason l cs ps room s f
  of-plan : (x : Stated) → s ≡ S.Plan → CaseIs l cs x → read_plan x ps ≡ fails f
      → Tells (plan_layout x.edition (devices x.case.system) (intervals x.case.system)) ps f → Reason l cs ps room s f
  of-result : (x : Stated) (p : Plan) → CaseIs l cs x → PlanIs x ps p → Short (length (completion_bytes x p)) room s f → Reason l cs ps room s f

pub record Item1 (l : Largest) (cs ps before : List ℕ) (j : Judged) : Type 0 where
  -- what does not pass reading is refused, the case ahead of the plan
  pub case-refused : (f : Fault) → stated_in l cs ≡ fails f → j.verdict ≡ Refused S.Case f
  pub plan-refused : (x : Stated) (f : Fault) → CaseIs l cs x → read_plan x ps ≡ fails f → j.verdict ≡ Refused S.Plan f
  -- nothing is refused without its reason, and no byte of the result is touched
  pub reason : (s : Subject) (f : Fault) → j.verdict ≡ Refused s f → Reason l cs ps (length before) s f
  pub untouched : (s : Subject) (f : Fault) → j.verdict ≡ Refused s f → j.result ≡ before

-- ---- items 2 and 3: of a case and a plan that pass reading

pub record Item2 (x : Stated) (p : Plan) (before : List ℕ) (j : Judged) : Type 0 where
  -- broken: the rule of that number fails at that place, and every rule ahead of it holds
  pub broken : (b : Breach) → j.verdict ≡ Broken b → First x.case.system p b
  pub untouched : (b : Breach) → j.verdict ≡ Broken b → j.result ≡ before
  -- accepted: every rule holds
  pub accepted : (z : ℤ) → j.verdict ≡ Accepted z → EveryRule x.case.system p

-- a completion of the case's edition that meets every rule: any whole numbers, one for each field of the message
pub record Allowed (x : Stated) (p : Plan) (y : Completion ℤ) : Type 0 where
  pub fields : OfEdition x.edition y
  pub meets : Meets x.case.system p y

pub record Item3 (x : Stated) (p : Plan) (before : List ℕ) (j : Judged) : Type 0 where
  -- broken exactly when no completion meets every rule
  pub broken-none : (b : Breach) → j.verdict ≡ Broken b → (y : Completion ℤ) → Allowed x p y → ⊥
  pub none-broken : ((y : Completion ℤ) → Allowed x p y → ⊥) → (b : Breach) × (j.verdict ≡ Broken b)
  -- accepted: the front of the buffer holds, field by field, a completion that meets every rule and has the surplus reported; the rest is as it was
  pub written : (z : ℤ) → j.verdict ≡ Accepted z → (n : ℕ) × (n ≤ length before) × Holds x p z (take n j.result) × (drop n j.result ≡ drop n before)
  -- no other that meets every rule has a greater one
  pub best : (z : ℤ) → j.verdict ≡ Accepted z → (y : Completion ℤ) → Allowed x p y → surplus_of x.case p y ≤ℤ z
  pub small : (z : ℤ) → j.verdict ≡ Accepted z → nat_abs z < 10 ^ 18

pub record Audited (l : Largest) (cs ps before : List ℕ) (j : Judged) : Type 0 where
  pub item1 : Item1 l cs ps before j
  pub item2 : (x : Stated) (p : Plan) → CaseIs l cs x → PlanIs x ps p → Item2 x p before j
  pub item3 : (x : Stated) (p : Plan) → CaseIs l cs x → PlanIs x ps p → Item3 x p before j

-- ---- every broken rule: r is the answer with the list's buffer as it is left

-- a list that was written: its bytes are the breaches, each rule that fails at a place once, no other, in order
pub record EveryBreach (x : Stated) (p : Plan) (before : List ℕ) (r : Listings) (n : ℕ) : Type 0 where
  pub entries : List Breach
  pub count : length entries ≡ n
  pub bytes : r.list ≡ list_bytes entries ++ drop (length (list_bytes entries)) before
  pub fail : (b : Breach) → Memᴰ b entries → Failed x.case.system p b
  pub all : (b : Breach) → Failed x.case.system p b → Memᴰ b entries
  pub order : Ordered Before entries

pub record ListAudited (l : Largest) (cs ps before : List ℕ) (r : Listings) : Type 0 where
  -- what does not pass reading is refused as by judging, and no byte of the list is touched
  pub case-refused : (f : Fault) → stated_in l cs ≡ fails f → (r.answer ≡ L.Refused S.Case f) × (r.list ≡ before)
  pub plan-refused : (x : Stated) (f : Fault) → CaseIs l cs x → read_plan x ps ≡ fails f → (r.answer ≡ L.Refused S.Plan f) × (r.list ≡ before)
  -- else every breach is listed, or the buffer is truly too short for them and stays as it was
  pub listed : (x : Stated) (p : Plan) → CaseIs l cs x → PlanIs x ps p → (n : ℕ) → r.answer ≡ L.Listed n → EveryBreach x p before r n
  pub short : (x : Stated) (p : Plan) → CaseIs l cs x → PlanIs x ps p → (s : Subject) (f : Fault) → r.answer ≡ L.Refused s f
      → Short (length (list_bytes (breaches x.case.system p))) (length before) s f × (r.list ≡ before)
