-- "the interval, device and new online power such that the plan with that one figure replaced is accepted": the answer is the desk's too.
use Rattle.std.specs.Prelude.{◌≡◌, ℕ, suc, ◌≤◌, ◌<◌, T, length}
use Rattle.std.proofs.Math.Path.{refl, sym}
use Rattle.std.proofs.Math.Option.{Option, none, some}
use mathlib.Core.List.{List, [], ◌∷◌}
use Rattle.std.proofs.Common.{arith, le-leb}
use Rattle.numbers.specs.Sum.{All}
use Rattle.layouts.specs.Layout.{Whole, passes, fails}
use Rattle.model.specs.declared.Breach.{Breach}
use Rattle.model.specs.declared.Verdict.TheVariants as Y
use Rattle.model.specs.Case.{System, Plan}
use Rattle.model.specs.Forced.{intervals, devices}
use Rattle.model.specs.Breaches.{breaches}
use Rattle.model.specs.Editions.{Largest, most_devices, most_intervals}
use Rattle.model.specs.ByEdition as B
use Rattle.model.specs.ByEdition.{Stated, stated_in}
use Rattle.model.specs.Judgement.{read_plan, verdict, accepts, judged, judgement, our_surplus, completion_bytes}
use Rattle.mending.specs.declared.Mending.TheVariants.{Accepted, Mended}
use Rattle.mending.specs.Mending.{Change, is_empty, mends, mended, most_online, replaced}
use Rattle.mending.specs.Least.{Within, Answers, Least}
use Rattle.mending.proofs.Least.{answered}
use Rattle.mending.specs.Mendings.{told, if_broken, mending_of, mend_plan, mend_case, mendings}
use Rattle.mending_theorems.proofs.FromBreach.{from-none}
use Rattle.mending_theorems.proofs.Answer.{shaped}
use Rattle.ranges.specs.Ranges.{planned-range}
use Rattle.mended_messages.specs.Fits.{replaced_bytes}
use Rattle.mended_messages.proofs.Fits.{replaced-read, plan-own, flows-step}
use Rattle.mended_messages.proofs.OneField.{plan-field}
use Rattle.mended_messages.specs.Promise.{FieldPut, PutIn}

-- ---- it holds
empty : (bs : List Breach) → T (is_empty bs) → bs ≡ []
empty [] h = refl
empty (b ∷ bs) h = absurd h

accepted-verdict : (x : Stated) (p : Plan) (room : ℕ) → breaches x.case.system p ≡ [] → length (completion_bytes x p) ≤ room → verdict x p room ≡ Y.Accepted (our_surplus x.case p)
unfolding verdict accepts
accepted-verdict x p room e h = rw e (rw (le-leb (length (completion_bytes x p)) room h) refl)

-- the change that an answer tells
record Tells (q : System) (p : Plan) (t i v : ℕ) : Type 0 where
  pub change : Change
  pub named : (t ≡ suc change.interval) × (i ≡ suc change.device) × (v ≡ change.power)
  pub least : Least most_online q p change

module _ (x : Stated) (p : Plan) (t i v : ℕ) where
  abbrev q : System
  q = x.case.system

  of-answer : (o : Option Change) → Answers most_online q p o → told o ≡ Mended t i v → Tells q p t i v
  of-answer none h e = absurd (let z : ◌≡◌ {A = ℕ} 0 1 = cc in omega arith)
  of-answer (some c) h e =
      let a : suc c.interval ≡ t = cc in
      let b : suc c.device ≡ i = cc in
      let d : c.power ≡ v = cc in
      record { change = c; named = (sym a, sym b, sym d); least = h }

  of-breaches : (bs : List Breach) → if_broken bs (Accepted (our_surplus x.case p)) (told (mended q p)) ≡ Mended t i v → Tells q p t i v
  of-breaches [] e = absurd (let z : ◌≡◌ {A = ℕ} 0 1 = cc in omega arith)
  of-breaches (b ∷ bs) e = of-answer (mended q p) (answered most_online q p) e

  tells : mending_of x p ≡ Mended t i v → Tells q p t i v
  unfolding mending_of
  tells e = of-breaches (breaches q p) e

module _ (l : Largest) (most : l.devices ≤ most_devices) (long : l.intervals ≤ most_intervals) (cs ps : List ℕ) where
  field_put : (x : Stated) → stated_in l cs ≡ passes x → (p : Plan) → read_plan x ps ≡ passes p → (c : Change) → Within x.case.system most_online c
      → All (λ b. b < 256) ps → FieldPut x p c ps
  unfolding replaced_bytes
  field_put x e p f c w small =
      let q : System = x.case.system in
      let s = shaped q p (planned-range x.edition q ps p f) in
      record {
        before = (B.plan_layout x.edition (devices q) (intervals q)).write p;
        after = (B.plan_layout x.edition (devices q) (intervals q)).write (replaced p c);
        was = sym (plan-own l most long cs x e ps p f small);
        is = refl;
        one = plan-field x.edition (devices q) (intervals q) p (flows-step l most long cs x e ps p f) c (omega (arith, w.interval, s.intervals)) s.devices w.device;
      }

module _ (l : Largest) (most : l.devices ≤ most_devices) (long : l.intervals ≤ most_intervals) (cs ps : List ℕ) (t i v : ℕ) where
  by-change : (x : Stated) → stated_in l cs ≡ passes x → (p : Plan) → read_plan x ps ≡ passes p → Tells x.case.system p t i v → PutIn l cs ps t i v
  unfolding mends judgement mendings judged
  by-change x e p f k =
      let c : Change = k.change in
      let m = k.least.mends in
      let r = replaced-read l most long cs x e ps p f c m.within.power in
      let none : breaches x.case.system (replaced p c) ≡ [] = empty (breaches x.case.system (replaced p c)) m.unbroken in
      record {
        stated = x;
        case = e;
        plan = p;
        read = f;
        change = c;
        named = k.named;
        least = k.least;
        reads = r;
        field = λ small. field_put l most long cs ps x e p f c m.within small;
        accepted = λ buffer h. rw (e, r) (accepted-verdict x (replaced p c) (length buffer) none h);
        mended = rw (e, r) (from-none x (replaced p c) none);
      }

  of-plan : (x : Stated) → stated_in l cs ≡ passes x → (w : Whole Plan) → read_plan x ps ≡ w → mend_plan x w ≡ Mended t i v → PutIn l cs ps t i v
  of-plan x e (fails f) g h = absurd (let z : ◌≡◌ {A = ℕ} 0 1 = cc in omega arith)
  of-plan x e (passes p) g h = by-change x e p g (tells x p t i v h)

  of-case : (w : Whole Stated) → stated_in l cs ≡ w → mend_case ps w ≡ Mended t i v → PutIn l cs ps t i v
  of-case (fails f) e h = absurd (let z : ◌≡◌ {A = ℕ} 0 1 = cc in omega arith)
  of-case (passes x) e h = of-plan x e (read_plan x ps) refl h

  pub put_in : mendings l cs ps ≡ Mended t i v → PutIn l cs ps t i v
  unfolding mendings
  put_in e = of-case (stated_in l cs) refl e
