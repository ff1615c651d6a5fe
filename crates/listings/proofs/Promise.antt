-- What listing every broken rule promises, for any bytes of a case and a plan and any buffer for the list.
use Rattle.std.specs.Prelude.{◌≡◌, Bool, ℕ, ◌*◌, ◌≤◌, leb, length}
use Rattle.std.proofs.Math.Path.{refl, subst}
use Rattle.std.proofs.Common.{sym, ap, arith, le-leb, leb-false}
use Rattle.std.proofs.Math.Bool.{true, false}
use mathlib.Core.List.{List, [], ◌∷◌}
use Rattle.std.proofs.lemmas.Bool.{lt-leb}
use Rattle.bits.specs.Pick.{pick}
use Rattle.numbers.specs.Base.{gather}
use Rattle.numbers.specs.Every.{all_in}
use Rattle.layouts.specs.declared.Fault.{Fault}
use Rattle.layouts.specs.declared.Fault.TheVariants.{TooShort}
use Rattle.model.specs.declared.Breach.{Breach}
use Rattle.model.specs.declared.Subject.{Subject}
use Rattle.model.specs.declared.Subject.TheVariants as S
use Rattle.model.specs.declared.Verdict.{Verdict}
use Rattle.model.specs.declared.Verdict.TheVariants as W
use Rattle.model.specs.declared.Listing.TheVariants.{Listed, Refused}
use Rattle.model.specs.Case.{System, Plan}
use Rattle.model.specs.Forced.{intervals, devices}
use Rattle.model.specs.Editions.{Largest, most_devices, most_intervals}
use Rattle.model.specs.ByEdition.{Stated}
use Rattle.model.specs.Breaches.{breaches}
use Rattle.model.specs.Named.{Failed}
use Rattle.model.proofs.Named.{listed-fails, fails-listed, listed-in-order}
use Rattle.model.specs.Judgement.{read_plan, verdict, unless_broken, accepts, our_surplus, completion_bytes}
use Rattle.model.specs.Lists.{list_bytes, listing, listed, list_plan, list_case, listings}
use Rattle.theorems.specs.Promise.{Sound}
use Rattle.theorems.proofs.Promise.{promised, plan-promised, stated-sound}
use Rattle.theorems.specs.Theorem.{Short, apart}
use Rattle.listings.proofs.Sizes.{breaches-few, bytes_small}
use Rattle.listings.specs.Promise.{CaseListed, Lists, PlanListed, Unbroken, accepted, short}

-- ---- they hold
list-long : (bs : List Breach) → length (list_bytes bs) ≡ 4 * length bs
unfolding list_bytes gather
list-long [] = refl
list-long (b ∷ bs) = omega (arith, list-long bs)

not-broken : {P : Type 0} (b : Breach) (v : Verdict) → Unbroken v → v ≡ W.Broken b → P
not-broken b v (accepted z) e = apart (cc)
not-broken b v (short n) e = apart (cc)

-- a refusal of the list's buffer is 7, and only where the list does not fit
only-short : (n needed room : ℕ) (s : Subject) (f : Fault) → pick (leb needed room) (Listed n) (Refused S.Result (TooShort needed)) ≡ Refused s f → Short needed room s f
only-short n needed room s f e = go (leb needed room) refl e
  where
    go : (b : Bool) → leb needed room ≡ b → pick b (Listed n) (Refused S.Result (TooShort needed)) ≡ Refused s f → Short needed room s f
    go true h k = apart (cc)
    go false h k = let g : TooShort needed ≡ f = cc in record { message = cc; number = rw (sym g) refl; returned = rw (sym g) refl; truly = leb-false needed room h }

module _ (x : Stated) (p : Plan) where
  abbrev q : System
  q = x.case.system

  -- the verdict where nothing is broken
  unbroken : (room : ℕ) → breaches q p ≡ [] → Unbroken (verdict x p room)
  unfolding verdict accepts
  unbroken room e = rw e (go (leb (length (completion_bytes x p)) room))
    where
      go : (b : Bool) → Unbroken (pick b (W.Accepted (our_surplus x.case p)) (W.Refused S.Result (TooShort (length (completion_bytes x p)))))
      go true = accepted (our_surplus x.case p)
      go false = short (length (completion_bytes x p))

  nothing-broken : (room : ℕ) → Unbroken (verdict x p room) → breaches q p ≡ []
  unfolding verdict
  nothing-broken room u = go (breaches q p) u
    where
      go : (bs : List Breach) → Unbroken (unless_broken bs (accepts (our_surplus x.case p) (length (completion_bytes x p)) room)) → bs ≡ []
      go [] u = refl
      go (b ∷ bs) u = not-broken b (W.Broken b) u refl

  first-named : (room : ℕ) (b : Breach) (bs : List Breach) → breaches q p ≡ b ∷ bs → verdict x p room ≡ W.Broken b
  unfolding verdict
  first-named room b bs e = rw e refl

  pub lists_of : Sound x → (before : List ℕ) → Lists x p before (listed x p before)
  unfolding listed listing
  lists_of s before = record {
    entry = λ b m. all_in (Failed q p) (breaches q p) (listed-fails q p) m;
    every = fails-listed q p;
    order = listed-in-order q p;
    fits = λ h. rw (le-leb (length (list_bytes (breaches q p))) (length before) h) (refl, refl);
    too_long = λ h. record {
      subject = S.Result;
      fault = TooShort (length (list_bytes (breaches q p)));
      answer = rw (lt-leb (length (list_bytes (breaches q p))) (length before) h) refl;
      short = record { message = refl; number = refl; returned = refl; truly = h };
      untouched = rw (lt-leb (length (list_bytes (breaches q p))) (length before) h) refl;
    };
    only-long = only-short (length (breaches q p)) (length (list_bytes (breaches q p))) (length before);
    first = first-named;
    none = unbroken;
    only_none = nothing-broken;
    four = list-long (breaches q p);
    few = breaches-few q p s.range.system;
    small = bytes_small q p s.range.system;
  }

pub plan-listed : (x : Stated) → Sound x → (ps before : List ℕ) → PlanListed x ps before (list_plan x before (read_plan x ps))
plan-listed x s ps before = record {
  plan-refused = λ f e. record { answer = rw e refl; number = ((plan-promised x s ps before).plan-refused f e).number; untouched = rw e refl };
  lists = λ p e. rw e (lists_of x p s before);
}

module _ (m : Largest) (most : m.devices ≤ most_devices) (long : m.intervals ≤ most_intervals) where
  pub case-listed : (cs ps before : List ℕ) → CaseListed m cs ps before (listings m cs ps before)
  unfolding listings
  case-listed cs ps before = record {
    case-refused = λ f e. record { answer = rw e refl; number = ((promised m most long cs ps before).case-refused f e).number; untouched = rw e refl };
    case-passed = λ x e. subst (PlanListed x ps before) (sym (ap (list_case ps before) e)) (plan-listed x (stated-sound m most long cs x e) ps before);
  }
