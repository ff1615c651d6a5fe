-- Item 3 by the fields that a completion of the case's edition has: "any choice of whole numbers, .. one for each field of the completion message between the zone
-- count and the surplus". An edition before 2 has no field of reactive power, one before 5 none of bar 1: a completion of such an edition is one whose choices
-- there are 0, for they are no choices.
use Rattle.std.specs.Prelude.{◌≡◌, false, List, [], ◌∷◌, ℕ, ◌≤◌, ◌≤ℤ◌}
use Rattle.std.proofs.Math.Path.{refl, ap}
use Rattle.std.proofs.Math.IntN.{ℤ, pos}
use Rattle.layouts.specs.Since.{has}
use Rattle.model.specs.declared.Breach.{Breach}
use Rattle.model.specs.declared.Verdict.{Verdict}
use Rattle.model.specs.declared.Verdict.TheVariants.{Accepted, Broken}
use Rattle.model.specs.Case.{Plan, Case}
use Rattle.model.specs.ByEdition.{Stated}
use Rattle.model.specs.Breaches.{breaches}
use Rattle.model.specs.Completion as C
use Rattle.model.specs.Completion.{Completion, Meets, surplus_of}
use Rattle.model.specs.Ours.{ours, whole}
use Rattle.model.specs.Judgement.{unless_broken, verdict}
use Rattle.theorems.specs.Plain.{none-short, none_apart}
use Rattle.theorems.specs.Barless.{Lacks, other-bar, other-bar-reactive}
use Rattle.theorems.specs.Best.{Floored, ours-meets}
use Rattle.theorems.specs.Theorem.{right-verdict}

-- a completion of edition e: it chooses at the fields of its message and nowhere else
pub record OfEdition (e : ℕ) (x : Completion ℤ) : Type 0 where
  pub reactive_shortfall : has 2 e ≡ false → (t z : ℕ) (k : C.ReactiveShortfall) → x.reactive_shortfall t z k ≡ pos 0
  pub reactive_mismatch : has 2 e ≡ false → (t b : ℕ) → x.reactive_mismatch t b ≡ pos 0
  pub second : has 5 e ≡ false → (t : ℕ) → x.mismatch t 1 ≡ pos 0
  pub second_reactive : has 5 e ≡ false → (t : ℕ) → x.reactive_mismatch t 1 ≡ pos 0

-- ours is one
pub ours-of : (e : ℕ) (c : Case) (p : Plan) → Lacks e c.system p → OfEdition e (whole (ours c p))
unfolding whole ours
ours-of e c p l = record {
  reactive_shortfall = λ h t z k. ap pos (none-short c.system p (l.plain h).0 (l.plain h).1 t z k);
  reactive_mismatch = λ h t b. ap pos (none_apart c.system p (l.plain h).0 (l.plain h).1 t b);
  second = λ h t. ap pos (other-bar c.system p (l.barless h).0 (l.barless h).1 t 0);
  second_reactive = λ h t. ap pos (other-bar-reactive c.system p (l.barless h).0 (l.barless h).1 t 0);
}

-- ---- item 3

-- what holds of a verdict v on a plan p for a case as its message states it, over the completions of the case's edition
pub record RightOf (y : Stated) (p : Plan) (v : Verdict) : Type 0 where
  pub broken-none : (b : Breach) → v ≡ Broken b → (x : Completion ℤ) → OfEdition y.edition x → Meets y.case.system p x → ⊥
  pub none-broken : ((x : Completion ℤ) → OfEdition y.edition x → Meets y.case.system p x → ⊥) → (b : Breach) × (v ≡ Broken b)
  pub ours-is : OfEdition y.edition (whole (ours y.case p))
  pub best : (z : ℤ) → v ≡ Accepted z → (x : Completion ℤ) → OfEdition y.edition x → Meets y.case.system p x → surplus_of y.case p x ≤ℤ z

pub right_of : (y : Stated) (p : Plan) → Floored y.case p → Lacks y.edition y.case.system p → (room : ℕ) → RightOf y p (verdict y p room)
unfolding verdict
right_of y p low l room = record {
  broken-none = λ b e x o m. (right-verdict y p low room).broken-none b e x m;
  none-broken = λ n. go _ (breaches y.case.system p) refl n;
  ours-is = ours-of y.edition y.case p l;
  best = λ z e x o m. (right-verdict y p low room).best z e x m;
}
  where
    go : (v : Verdict) (bs : List Breach) → breaches y.case.system p ≡ bs → ((x : Completion ℤ) → OfEdition y.edition x → Meets y.case.system p x → ⊥)
        → (b : Breach) × (unless_broken bs v ≡ Broken b)
    go v [] e n = absurd (n (whole (ours y.case p)) (ours-of y.edition y.case p l) (ours-meets y.case p low e))
    go v (b ∷ bs) e n = (b, refl)
