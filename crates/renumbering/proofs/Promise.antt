-- "Renumbering sets": what it promises of two pairs of a case and a plan that passed reading, of any editions, whose devices are rearranged alike.
use Rattle.std.specs.Prelude.{◌≡◌, refl, ℕ, ◌≤◌, length, ℤ}
use Rattle.std.proofs.Math.Path.{sym, ap}
use Rattle.std.proofs.Common.{◌∙◌, arith, le-leb}
use mathlib.Core.List.{List, [], ◌∷◌}
use Rattle.model.specs.declared.Breach.{Breach}
use Rattle.model.specs.declared.Verdict.{Verdict}
use Rattle.model.specs.declared.Verdict.TheVariants.{Accepted}
use Rattle.model.specs.Case.{Plan, Case}
use Rattle.model.specs.Forced.{devices}
use Rattle.model.specs.Breaches.{breaches}
use Rattle.model.proofs.Named.{none-every, every-none, listed-in-order}
use Rattle.model.specs.ByEdition.{Stated}
use Rattle.model.specs.Judgement.{our_surplus, completion_bytes, accepts, unless_broken, verdict}
use Rattle.renumbering.specs.Permute.{Renumbering}
use Rattle.renumbering.specs.Renumbered.{rearranged_case, rearranged_plan, Moved}
use Rattle.renumbering.proofs.Renumbered.{rearranged-moved}
use Rattle.renumbering.proofs.Needs.{ours-carried}
use Rattle.renumbering.proofs.Surplus.{our-surplus-same}
use Rattle.renumbering.proofs.Listed.{breach-carried, breach-came, as_many, none-carried, none_came}
use Rattle.renumbering.proofs.Message.{ours-moved, bytes-moved, as_long}
use Rattle.renumbering.specs.Promise.{OneEdition, Renumbers, SameBreaches, SameVerdict, broken, rearranged_message, rearranged_stated, same}

-- ---- they hold
accepted-on : (z : ℤ) (v w : Verdict) → SameVerdict v w → v ≡ Accepted z → w ≡ Accepted z
accepted-on z v w (same _ _ e) h = sym e ∙ h
accepted-on z v w (broken a b) h = absurd (let n : ◌≡◌ {A = ℕ} 0 1 = cc in omega arith)

accepted-off : (z : ℤ) (v w : Verdict) → SameVerdict v w → w ≡ Accepted z → v ≡ Accepted z
accepted-off z v w (same _ _ e) h = e ∙ h
accepted-off z v w (broken a b) h = absurd (let n : ◌≡◌ {A = ℕ} 0 1 = cc in omega arith)

-- two lists of breaches, as many, before the same verdict where there are none
unless-same : (bs bs' : List Breach) (v v' : Verdict) → length bs' ≡ length bs → v ≡ v' → SameVerdict (unless_broken bs v) (unless_broken bs' v')
unless-same [] [] v v' h e = same v v' e
unless-same [] (b ∷ bs) v v' h e = absurd (omega arith)
unless-same (a ∷ l) [] v v' h e = absurd (omega arith)
unless-same (a ∷ l) (b ∷ bs) v v' h e = broken a b

accepts-long : (z : ℤ) (needed room : ℕ) → needed ≤ room → accepts z needed room ≡ Accepted z
unfolding accepts
accepts-long z needed room h = rw (le-leb needed room h) refl

module _ (c : Case) (p : Plan) (r : Renumbering (devices c.system)) (c' : Case) (p' : Plan) (m : Moved c p r c' p') where
  abbrev stated : ℕ → Stated
  stated e = record { edition = e; case = c }

  abbrev stated' : ℕ → Stated
  stated' e = record { edition = e; case = c' }

  same-breaches : SameBreaches r (breaches c.system p) (breaches c'.system p')
  same-breaches = record {
    carried = breach-carried c p r c' p' m;
    came = breach-came c p r c' p' m;
    many = as_many c p r c' p' m;
    once = listed-in-order c.system p;
    once' = listed-in-order c'.system p';
  }

  long-verdicts : (e e' room room' : ℕ) → length (completion_bytes (stated e) p) ≤ room → length (completion_bytes (stated' e') p') ≤ room'
      → SameVerdict (verdict (stated e) p room) (verdict (stated' e') p' room')
  unfolding verdict
  long-verdicts e e' room room' h k = unless-same (breaches c.system p) (breaches c'.system p') _ _ (as_many c p r c' p' m)
      (accepts-long (our_surplus c p) _ room h ∙ ap Accepted (sym (our-surplus-same c p r c' p' m)) ∙ sym (accepts-long (our_surplus c' p') _ room' k))

  pub moved-renumbers : (e e' : ℕ) → Renumbers (stated e) p r (stated' e') p'
  moved-renumbers e e' = record {
    accepted = λ room room' h k z. let v = long-verdicts e e' room room' h k in (accepted-on z _ _ v, accepted-off z _ _ v);
    verdicts = long-verdicts e e';
    surplus = our-surplus-same c p r c' p' m;
    rules = (
      λ h. none-every c'.system p' (none-carried c p r c' p' m (every-none c.system p h)),
      λ h. none-every c.system p (none_came c p r c' p' m (every-none c'.system p' h)),
    );
    choices = ours-carried c p r c' p' m;
    fields = ours-moved c p r c' p' m;
    broken = same-breaches;
  }

  pub moved-alike : (e : ℕ) → OneEdition (stated e) p r (stated' e) p'
  unfolding rearranged_message verdict
  moved-alike e = record {
    message = bytes-moved c p r c' p' m e;
    long = as_long c p r c' p' m e;
    verdicts = λ room. unless-same (breaches c.system p) (breaches c'.system p') _ _ (as_many c p r c' p' m)
        (λ k. accepts (sym (our-surplus-same c p r c' p' m) k) (sym (as_long c p r c' p' m e) k) room);
  }

-- for every renumbering
pub rearranged-renumbers : (x : Stated) (p : Plan) (r : Renumbering (devices x.case.system)) (e : ℕ) → Renumbers x p r (rearranged_stated e r x.case) (rearranged_plan r p)
rearranged-renumbers x p r e = moved-renumbers x.case p r (rearranged_case r x.case) (rearranged_plan r p) (rearranged-moved x.case p r) x.edition e

pub rearranged-alike : (x : Stated) (p : Plan) (r : Renumbering (devices x.case.system)) → OneEdition x p r (rearranged_stated x.edition r x.case) (rearranged_plan r p)
rearranged-alike x p r = moved-alike x.case p r (rearranged_case r x.case) (rearranged_plan r p) (rearranged-moved x.case p r) x.edition
