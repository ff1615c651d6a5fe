-- That `Audit` holds of the judgement and of the list of breaches, for any bytes, at the sizes of the host library and of the batch program.
use Rattle.std.specs.Prelude.{◌≡◌, refl, Bool, true, false, List, ℕ, ◌≤◌, leb, length}
use Rattle.std.proofs.Common.{ap, ◌∙◌, arith, leb-true, leb-false}
use Rattle.layouts.specs.declared.Fault.{Fault}
use Rattle.layouts.specs.Layout.{Whole, passes, fails}
use Rattle.model.specs.declared.Subject.{Subject}
use Rattle.model.specs.declared.Verdict.{Verdict}
use Rattle.model.specs.declared.Verdict.TheVariants.{Refused}
use Rattle.model.specs.declared.Listing.{Listing}
use Rattle.model.specs.declared.Listing.TheVariants as L
use Rattle.model.specs.Case.{Plan}
use Rattle.model.specs.Editions.{Largest, most_devices, most_intervals, host, batch}
use Rattle.model.specs.ByEdition.{Stated, stated_in}
use Rattle.model.specs.Breaches.{breaches}
use Rattle.model.specs.Judgement.{Judged, read_plan, judgement, completion_bytes}
use Rattle.model.specs.Lists.{Listings, list_bytes, listings}
use Rattle.theorems.specs.Theorem.{Short, apart}
use Rattle.theorems.specs.Promise.{Promise, PlanPromise}
use Rattle.theorems.proofs.Promise.{promised}
use Rattle.listings.specs.Promise.{Lists}
use Rattle.listings.proofs.Promise.{case-listed}
use Rattle.audit.specs.Audit.{CaseIs, PlanIs, Reason, of-case, of-plan, of-result, Item2, Item3, Audited, EveryBreach, ListAudited}

same-fault : {v : Verdict} {s t : Subject} {f g : Fault} → v ≡ Refused s f → v ≡ Refused t g → f ≡ g
same-fault a b = cc

same-subject : {v : Verdict} {s t : Subject} {f g : Fault} → v ≡ Refused s f → v ≡ Refused t g → t ≡ s
same-subject a b = cc

-- ---- from the promise, whatever the reader's counts
module _ (l : Largest) (cs ps before : List ℕ) (j : Judged) (m : Promise l cs ps before j) where
  reason : (s : Subject) (f : Fault) → j.verdict ≡ Refused s f → Reason l cs ps (length before) s f
  reason s f e = of-whole (stated_in l cs) refl
    where
      of-read : (x : Stated) → CaseIs l cs x → (w : Whole Plan) → read_plan x ps ≡ w → Reason l cs ps (length before) s f
      of-read x h (fails g) k =
          let r = (m.case-passed x h).plan-refused g k in
          let i : read_plan x ps ≡ fails f = k ∙ ap fails (same-fault r.verdict e) in
          of-plan x (same-subject r.verdict e) h i ((m.case-passed x h).plan-refused f i).number
      of-read x h (passes p) k = of-result x p h k (((m.case-passed x h).right p k).short s f e)

      of-whole : (w : Whole Stated) → stated_in l cs ≡ w → Reason l cs ps (length before) s f
      of-whole (fails g) h =
          let r = m.case-refused g h in
          let i : stated_in l cs ≡ fails f = h ∙ ap fails (same-fault r.verdict e) in
          of-case (same-subject r.verdict e) i (m.case-refused f i).number
      of-whole (passes x) h = of-read x h (read_plan x ps) refl

  untouched : (s : Subject) (f : Fault) → j.verdict ≡ Refused s f → j.result ≡ before
  untouched s f e = go (stated_in l cs) refl
    where
      go : (w : Whole Stated) → stated_in l cs ≡ w → j.result ≡ before
      go (fails g) h = (m.case-refused g h).untouched
      go (passes x) h = (m.case-passed x h).refused-untouched s f e

  module _ (x : Stated) (p : Plan) (h : CaseIs l cs x) (k : PlanIs x ps p) where
    abbrev q : PlanPromise x ps before j
    q = m.case-passed x h

    as-item2 : Item2 x p before j
    as-item2 = record {
      broken = (q.right p k).named;
      untouched = q.broken-untouched;
      accepted = λ z e. ((q.right p k).meets z e).rules;
    }

    as-item3 : Item3 x p before j
    as-item3 = record {
      broken-none = λ b e y a. (q.right_of p k).broken-none b e y a.fields a.meets;
      none-broken = λ n. (q.right_of p k).none-broken (λ y o i. n y (record { fields = o; meets = i }));
      written = λ z e. let w = q.wrote p z k e in (length (completion_bytes x p), (q.right p k).fits z e, w.holds, w.rest);
      best = λ z e y a. (q.right_of p k).best z e y a.fields a.meets;
      small = λ z e. (q.wrote p z k e).size;
    }

  as-audited : Audited l cs ps before j
  as-audited = record {
    item1 = record {
      case-refused = λ f e. (m.case-refused f e).verdict;
      plan-refused = λ x f h e. ((m.case-passed x h).plan-refused f e).verdict;
      reason = reason;
      untouched = untouched;
    };
    item2 = as-item2;
    item3 = as-item3;
  }

-- ---- every breach
listed-count : {r : Listing} {m n : ℕ} → r ≡ L.Listed m → r ≡ L.Listed n → m ≡ n
listed-count a b = cc

not_listed : {P : Type 0} {r : Listing} {s : Subject} {f : Fault} {n : ℕ} → r ≡ L.Refused s f → r ≡ L.Listed n → P
not_listed a b = apart (cc)

module _ (x : Stated) (p : Plan) (before : List ℕ) (r : Listings) (m : Lists x p before r) where
  abbrev needed : ℕ
  needed = length (list_bytes (breaches x.case.system p))

  as-every : (n : ℕ) → r.answer ≡ L.Listed n → EveryBreach x p before r n
  as-every n e = go (leb needed (length before)) refl
    where
      go : (b : Bool) → leb needed (length before) ≡ b → EveryBreach x p before r n
      go true h =
          let f = m.fits (leb-true _ _ h) in
          record { entries = breaches x.case.system p; count = listed-count f.0 e; bytes = f.1; fail = m.entry; all = m.every; order = m.order }
      go false h = not_listed (m.too_long (leb-false _ _ h)).answer e

  as_short : (s : Subject) (f : Fault) → r.answer ≡ L.Refused s f → Short needed (length before) s f × (r.list ≡ before)
  as_short s f e = go (leb needed (length before)) refl
    where
      go : (b : Bool) → leb needed (length before) ≡ b → Short needed (length before) s f × (r.list ≡ before)
      go true h = not_listed e (m.fits (leb-true _ _ h)).0
      go false h = (m.only-long s f e, (m.too_long (leb-false _ _ h)).untouched)

module _ (l : Largest) (most : l.devices ≤ most_devices) (long : l.intervals ≤ most_intervals) where
  audited : (cs ps before : List ℕ) → Audited l cs ps before (judgement l cs ps before)
  audited cs ps before = as-audited l cs ps before _ (promised l most long cs ps before)

  list-audited : (cs ps before : List ℕ) → ListAudited l cs ps before (listings l cs ps before)
  list-audited cs ps before = let m = case-listed l most long cs ps before in record {
    case-refused = λ f e. ((m.case-refused f e).answer, (m.case-refused f e).untouched);
    plan-refused = λ x f h e. (((m.case-passed x h).plan-refused f e).answer, ((m.case-passed x h).plan-refused f e).untouched);
    listed = λ x p h k. as-every x p before _ ((m.case-passed x h).lists p k);
    short = λ x p h k. as_short x p before _ ((m.case-passed x h).lists p k);
  }

-- ---- the claim, for any bytes
pub host-audited : (cs ps before : List ℕ) → Audited host cs ps before (judgement host cs ps before)
host-audited = audited host (omega arith) (omega arith)

pub batch-audited : (cs ps before : List ℕ) → Audited batch cs ps before (judgement batch cs ps before)
batch-audited = audited batch (omega arith) (omega arith)

pub host-list-audited : (cs ps before : List ℕ) → ListAudited host cs ps before (listings host cs ps before)
host-list-audited = list-audited host (omega arith) (omega arith)

pub batch-list-audited : (cs ps before : List ℕ) → ListAudited batch cs ps before (listings batch cs ps before)
batch-list-audited = list-audited batch (omega arith) (omega arith)
