-- What mending the bytes of a plan against those of a case answers, and what the answer promises.
use Rattle.std.specs.Prelude.{◌≡◌, List, [], ◌∷◌, ℕ, suc}
use Rattle.std.proofs.Math.Option.{Option, none, some}
use Rattle.layouts.specs.declared.Fault.{Fault}
use Rattle.layouts.specs.Layout.{Whole, passes, fails}
use Rattle.model.specs.declared.Breach.{Breach}
use Rattle.model.specs.declared.Subject.TheVariants as S
use Rattle.model.specs.Case.{System, Plan}
use Rattle.model.specs.Breaches.{breaches}
use Rattle.model.specs.Editions.{Largest}
use Rattle.model.specs.ByEdition.{Stated, stated_in}
use Rattle.model.specs.Judgement.{read_plan, our_surplus}
use Rattle.mending.specs.declared.Mending.{Mending}
use Rattle.mending.specs.declared.Mending.TheVariants.{Accepted, Mended, Nothing, Refused}
use Rattle.mending.specs.Mending.{Change, most_online, mended}
use Rattle.mending.specs.Least.{Mends, Least}

-- ---- the answer

-- by interval and device from 1; or "none"
abbrev pub told : Option Change → Mending
told none = Nothing
told (some c) = Mended (suc c.interval) (suc c.device) c.power

-- "A plan already accepted is answered with its surplus"
abbrev pub if_broken : List Breach → Mending → Mending → Mending
if_broken [] accepted m = accepted
if_broken (b ∷ bs) accepted m = m

-- of a plan that passed reading
unfoldable pub mending_of : Stated → Plan → Mending
mending_of x p = if_broken (breaches x.case.system p) (Accepted (our_surplus x.case p)) (told (mended x.case.system p))

-- "a message refused in reading with its fault", case, then plan
abbrev pub mend_plan : Stated → Whole Plan → Mending
mend_plan x (passes p) = mending_of x p
mend_plan x (fails f) = Refused S.Plan f

abbrev pub mend_case : List ℕ → Whole Stated → Mending
mend_case ps (passes x) = mend_plan x (read_plan x ps)
mend_case ps (fails f) = Refused S.Case f

-- from the bytes of a case and a plan, by a reader that takes counts up to these
unfoldable pub mendings : Largest → List ℕ → List ℕ → Mending
mendings l cs ps = mend_case ps (stated_in l cs)

-- ---- what it promises

-- the answer for a broken plan: the least change that mends it, or none where none does
pub data MendedBy (q : System) (p : Plan) : Mending → Type 0 where
  by-change : (c : Change) → Least most_online q p c → MendedBy q p (Mended (suc c.interval) (suc c.device) c.power)
  by-nothing : ((c : Change) → Mends most_online q p c → ⊥) → MendedBy q p Nothing

pub record Promise (x : Stated) (p : Plan) (r : Mending) : Type 0 where
  pub accepted : breaches x.case.system p ≡ [] → r ≡ Accepted (our_surplus x.case p)
  pub broken : (b : Breach) (bs : List Breach) → breaches x.case.system p ≡ b ∷ bs → MendedBy x.case.system p r

pub record PlanPromise (x : Stated) (ps : List ℕ) (r : Mending) : Type 0 where
  pub plan-refused : (f : Fault) → read_plan x ps ≡ fails f → r ≡ Refused S.Plan f
  pub plan-passed : (p : Plan) → read_plan x ps ≡ passes p → Promise x p r

pub record CasePromise (l : Largest) (cs ps : List ℕ) (r : Mending) : Type 0 where
  pub case-refused : (f : Fault) → stated_in l cs ≡ fails f → r ≡ Refused S.Case f
  pub case-passed : (x : Stated) → stated_in l cs ≡ passes x → PlanPromise x ps r
