-- What mending the bytes of a plan against those of a case answers, and what the answer promises.
use Rattle.std.specs.Prelude.{refl, List, ℕ}
use Rattle.std.proofs.Common.{sym, ap, subst}
use Rattle.std.proofs.Math.Option.{Option, none, some}
use Rattle.model.specs.Case.{System, Plan}
use Rattle.model.specs.Editions.{Largest}
use Rattle.model.specs.ByEdition.{Stated}
use Rattle.model.specs.Judgement.{read_plan}
use Rattle.mending.specs.Mending.{Change, most_online, mended}
use Rattle.mending.specs.Least.{Answers}
use Rattle.mending.proofs.Least.{answered}
use Rattle.mending.specs.Mendings.{CasePromise, MendedBy, PlanPromise, Promise, by-change, by-nothing, mend_case, mend_plan, mending_of, mendings, told}

-- ---- it holds
by_answer : (q : System) (p : Plan) (o : Option Change) → Answers most_online q p o → MendedBy q p (told o)
by_answer q p none h = by-nothing h
by_answer q p (some c) h = by-change c h

pub promise : (x : Stated) (p : Plan) → Promise x p (mending_of x p)
unfolding mending_of
promise x p = record {
  accepted = λ e. rw e refl;
  broken = λ b bs e. rw e (by_answer x.case.system p (mended x.case.system p) (answered most_online x.case.system p));
}

pub plan-promise : (x : Stated) (ps : List ℕ) → PlanPromise x ps (mend_plan x (read_plan x ps))
plan-promise x ps = record { plan-refused = λ f e. rw e refl; plan-passed = λ p e. rw e (promise x p) }

pub case-promise : (l : Largest) (cs ps : List ℕ) → CasePromise l cs ps (mendings l cs ps)
unfolding mendings
case-promise l cs ps = record { case-refused = λ f e. rw e refl; case-passed = λ x e. subst (PlanPromise x ps) (sym (ap (mend_case ps) e)) (plan-promise x ps) }
