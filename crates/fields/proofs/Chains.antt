-- What reading a layout gives, from what reading its parts gave; each part's answer is the left side of an equation, as a reader promises it.
use Rattle.std.specs.Prelude.{◌≡◌, Result, Ok, Err, Bool, List, ℕ}
use Rattle.std.proofs.Common.{sym, ap, ◌∙◌}
use Rattle.layouts.specs.declared.Fault.{Fault}
use Rattle.layouts.specs.declared.Place.{Place}
use Rattle.layouts.specs.Layout.{Layout, ◌then◌, such, held, noted}
use Rattle.fields.specs.Got.{Got, good, bad, got, seen, told, Natural, then-eq, such-eq, held-eq, goes_on, goes-off}

-- ---- one behind the other

module _ {A B : Type 0} {l : Layout A} (u : Natural l) (m : A → Layout B) (s : List ℕ) (p : Place) where
  pub then-off : {f : Fault} → bad f ≡ got l s p → bad f ≡ got (l then m) s p
  then-off e = sym (then-eq l m s p bad good ∙ goes-off u s p bad _ (sym e))

  pub then-late : {a : A} {q : Place} {f : Fault} → Natural (m a) → good a q ≡ got l s p → bad f ≡ got (m a) s q → bad f ≡ got (l then m) s p
  then-late {q = q} v e h = sym (then-eq l m s p bad good ∙ goes_on u s p bad _ (sym e) ∙ goes-off v s q bad _ (sym h))

  pub then-on : {a : A} {b : B} {q z : Place} → Natural (m a) → good a q ≡ got l s p → good b z ≡ got (m a) s q → good (a, b) z ≡ got (l then m) s p
  then-on {q = q} v e h = sym (then-eq l m s p bad good ∙ goes_on u s p bad _ (sym e) ∙ goes_on v s q bad _ (sym h))

-- ---- a test on what was read

module _ {A : Type 0} {l : Layout A} (u : Natural l) (ok : A → Bool) (s : List ℕ) (p : Place) where
  pub such-off : {f : Fault} → bad f ≡ got l s p → bad f ≡ got (such ok l) s p
  such-off e = sym (such-eq ok l s p bad good ∙ goes-off u s p bad _ (sym e))

  pub such-on : {a : A} {q z : Place} → good a q ≡ got l s p → z ≡ noted (ok a) p.at q → good a z ≡ got (such ok l) s p
  such-on {a = a} e n = ap (good a) n ∙ sym (such-eq ok l s p bad good ∙ goes_on u s p bad _ (sym e))

-- ---- the same fields as another type

module _ {A B : Type 0} {l : Layout A} (u : Natural l) (to : A → B) (from : B → A) (s : List ℕ) (p : Place) where
  pub held-off : {f : Fault} → bad f ≡ got l s p → bad f ≡ got (held to from l) s p
  held-off e = sym (held-eq to from l s p bad good ∙ goes-off u s p bad _ (sym e))

  pub held_on : {a : A} {q : Place} → good a q ≡ got l s p → good (to a) q ≡ got (held to from l) s p
  held_on e = sym (held-eq to from l s p bad good ∙ goes_on u s p bad _ (sym e))
