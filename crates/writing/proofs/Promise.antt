-- The promises of writing in the newest edition, on messages: for any bytes and any result buffer.
use Rattle.std.specs.Prelude.{◌≡◌, Bool, true, false, List, ℕ, leb}
use Rattle.std.proofs.Math.Path.{refl}
use Rattle.std.proofs.Common.{sym, ◌∙◌, ap, subst, arith, leb-false, take_at, drop_at}
use lib.ListN.{length, drop}
use Rattle.bits.specs.Pick.{pick}
use Rattle.layouts.specs.declared.Fault.{Fault}
use Rattle.layouts.specs.declared.Fault.TheVariants.{TooShort}
use Rattle.layouts.specs.Layout.{passes, fails}
use Rattle.model.specs.declared.Subject.TheVariants as S
use Rattle.model.specs.Case.{Plan}
use Rattle.model.specs.Editions.{Largest}
use Rattle.model.specs.ByEdition.{Stated, stated_in}
use Rattle.model.specs.Judgement.{read_plan}
use Rattle.writing.specs.declared.Writing.TheVariants.{Written, Refused}
use Rattle.writing.specs.Anew.{case_bytes, plan_bytes, writing, after, put, case_anew, plan_anew}
use Rattle.writing.proofs.Same.{case-again, case-own, case-size, case-equal, plan-again, plan-own, plan-size, judged-same, listed_same, plan-equal}
use Rattle.writing.specs.Promise.{CaseKept, CasePromise, PairKept, PlanKept, PlanPromise, Refuses, Writes}

-- written, or 7
module _ (out before : List ℕ) where
  writes-by : (b : Bool) → leb (length out) (length before) ≡ b → Writes out before (record {
    answer = pick b (Written (length out)) (Refused S.Result (TooShort (length out)));
    result = after (pick b (Written (length out)) (Refused S.Result (TooShort (length out)))) out before;
  })
  writes-by true h = record {
    length = λ n e. cc;
    bytes = λ n e. let m : length out ≡ n = cc in take_at out _ n m;
    rest = λ n e. let m : length out ≡ n = cc in drop_at out _ n m ∙ ap (λ (k : ℕ). drop k before) m;
    short = λ s f e. absurd (let z : ◌≡◌ {A = ℕ} 0 1 = cc in omega arith);
  }
  writes-by false h = record {
    length = λ n e. absurd (let z : ◌≡◌ {A = ℕ} 0 1 = cc in omega arith);
    bytes = λ n e. absurd (let z : ◌≡◌ {A = ℕ} 0 1 = cc in omega arith);
    rest = λ n e. absurd (let z : ◌≡◌ {A = ℕ} 0 1 = cc in omega arith);
    short = λ s f e. (cc, cc, leb-false _ _ h, refl);
  }

  put-writes : Writes out before (put out before)
  unfolding put writing
  put-writes = writes-by (leb (length out) (length before)) refl

-- what a case and a plan that pass reading are written as
case-writes : (l : Largest) (cs before : List ℕ) (x : Stated) → stated_in l cs ≡ passes x → Writes (case_bytes x.case) before (case_anew l cs before)
unfolding case_anew
case-writes l cs before x e = rw e (put-writes (case_bytes x.case) before)

plan-writes : (l : Largest) (cs ps before : List ℕ) (x : Stated) (p : Plan) → stated_in l cs ≡ passes x → read_plan x ps ≡ passes p
    → Writes (plan_bytes x.case.system p) before (plan_anew l cs ps before)
unfolding plan_anew
plan-writes l cs ps before x p e g = rw (e, g) (put-writes (plan_bytes x.case.system p) before)

pair-kept : (l : Largest) (cs ps : List ℕ) (x : Stated) (p : Plan) → stated_in l cs ≡ passes x → read_plan x ps ≡ passes p
    → PairKept l cs ps x p (case_bytes x.case) (plan_bytes x.case.system p)
pair-kept l cs ps x p e g = record { judged = judged-same l cs x e ps p g; listed = listed_same l cs x e ps p g }

case-kept : (l : Largest) (cs : List ℕ) (x : Stated) → stated_in l cs ≡ passes x → CaseKept l cs x (case_bytes x.case)
case-kept l cs x e = record {
  reads = case-again l cs x e;
  own = case-own l cs x e;
  equal = λ ds y k buffer m w. rw ((case-writes l ds buffer y k).bytes m w) (case-equal l cs ds x y e k);
  pair = λ ps p g buffer m w. rw ((plan-writes l cs ps buffer x p e g).bytes m w) (pair-kept l cs ps x p e g);
  size = case-size l cs x e;
}

case-refuses : (l : Largest) (cs before : List ℕ) (f : Fault) → stated_in l cs ≡ fails f → Refuses S.Case f before (case_anew l cs before)
unfolding case_anew
case-refuses l cs before f e = rw e (record { answer = refl; untouched = refl })

pub case-promised : (l : Largest) (cs before : List ℕ) → CasePromise l cs before (case_anew l cs before)
case-promised l cs before = record {
  case-refused = case-refuses l cs before;
  writes = case-writes l cs before;
  kept = λ x e n h. subst (CaseKept l cs x) (sym ((case-writes l cs before x e).bytes n h)) (case-kept l cs x e);
}

plan-kept : (l : Largest) (cs ps : List ℕ) (x : Stated) (p : Plan) → stated_in l cs ≡ passes x → read_plan x ps ≡ passes p → PlanKept l cs ps x p (plan_bytes x.case.system p)
plan-kept l cs ps x p e g = record {
  reads = plan-again l cs x e ps p g;
  own = plan-own l cs x e ps p g;
  equal = λ ds rs y r k i buffer m w. rw ((plan-writes l ds rs buffer y r k i).bytes m w) (plan-equal l cs x e ps p g ds y k rs r i);
  pair = λ buffer m w. rw ((case-writes l cs buffer x e).bytes m w) (pair-kept l cs ps x p e g);
  size = plan-size l cs x e ps p g;
}

plan-case-refuses : (l : Largest) (cs ps before : List ℕ) (f : Fault) → stated_in l cs ≡ fails f → Refuses S.Case f before (plan_anew l cs ps before)
unfolding plan_anew
plan-case-refuses l cs ps before f e = rw e (record { answer = refl; untouched = refl })

plan-refuses : (l : Largest) (cs ps before : List ℕ) (x : Stated) (f : Fault) → stated_in l cs ≡ passes x → read_plan x ps ≡ fails f → Refuses S.Plan f before (plan_anew l cs ps before)
unfolding plan_anew
plan-refuses l cs ps before x f e g = rw (e, g) (record { answer = refl; untouched = refl })

pub plan-promised : (l : Largest) (cs ps before : List ℕ) → PlanPromise l cs ps before (plan_anew l cs ps before)
plan-promised l cs ps before = record {
  case-refused = plan-case-refuses l cs ps before;
  plan-refused = plan-refuses l cs ps before;
  writes = plan-writes l cs ps before;
  kept = λ x p e g n h. subst (PlanKept l cs ps x p) (sym ((plan-writes l cs ps before x p e g).bytes n h)) (plan-kept l cs ps x p e g);
}
