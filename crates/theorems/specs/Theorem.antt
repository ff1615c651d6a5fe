-- Item 3 over the figures: what the verdict on a plan says of all its completions.
use Rattle.std.specs.Prelude.{◌≡◌, refl, Bool, true, false, List, [], ◌∷◌, ℕ, ◌≤◌, ◌<◌, leb, length, ℤ, ◌≤ℤ◌}
use Rattle.std.proofs.Common.{sym, arith, leb-true, leb-false}
use Rattle.bits.specs.Pick.{pick}
use Rattle.layouts.specs.Faults.{number_of, returned_by}
use Rattle.layouts.specs.declared.Fault.{Fault}
use Rattle.layouts.specs.declared.Fault.TheVariants.{TooShort}
use Rattle.model.specs.declared.Breach.{Breach}
use Rattle.model.specs.declared.Subject.{Subject}
use Rattle.model.specs.declared.Subject.TheVariants as S
use Rattle.model.specs.declared.Verdict.{Verdict}
use Rattle.model.specs.declared.Verdict.TheVariants.{Accepted, Broken, Refused}
use Rattle.model.specs.Case.{Plan}
use Rattle.model.specs.ByEdition.{Stated}
use Rattle.model.specs.Completion.{Completion, Meets, surplus_of}
use Rattle.model.specs.Breaches.{breaches}
use Rattle.model.specs.Ours.{ours, whole}
use Rattle.model.specs.Judgement.{unless_broken, accepts, verdict, our_surplus, completion_bytes}
use Rattle.model.specs.Named.{First}
use Rattle.model.proofs.Named.{first-fails, every-none}
use Rattle.theorems.specs.Best.{Floored, ours-meets, ours-best}

-- 7 "bytes needed: result buffer too short": of the result buffer, with the bytes needed, and only where they do not fit
pub record Short (needed room : ℕ) (s : Subject) (f : Fault) : Type 0 where
  pub message : s ≡ S.Result
  pub number : number_of f ≡ 7
  pub returned : returned_by f ≡ needed
  pub truly : room < needed

-- what holds of a verdict v on a plan p for a case as its message states it, with a result buffer of `room` bytes
pub record Right (y : Stated) (p : Plan) (room : ℕ) (v : Verdict) : Type 0 where
  -- "A plan is called broken exactly when no completion of it meets every rule"
  pub broken-none : (b : Breach) → v ≡ Broken b → (x : Completion ℤ) → Meets y.case.system p x → ⊥
  pub none-broken : ((x : Completion ℤ) → Meets y.case.system p x → ⊥) → (b : Breach) × (v ≡ Broken b)
  -- "Broken with its place": the rule of that number fails at that place, and every rule that comes before it in the paper's order holds
  pub named : (b : Breach) → v ≡ Broken b → First y.case.system p b
  -- "where it is accepted, the completion written meets every rule, has exactly the surplus reported, and no other completion that meets every rule has a greater one"
  pub meets : (z : ℤ) → v ≡ Accepted z → Meets y.case.system p (whole (ours y.case p))
  pub surplus : (z : ℤ) → v ≡ Accepted z → surplus_of y.case p (whole (ours y.case p)) ≡ z
  pub best : (z : ℤ) → v ≡ Accepted z → (x : Completion ℤ) → Meets y.case.system p x → surplus_of y.case p x ≤ℤ z
  -- "A buffer is called short only when it is": it is refused by 7, with the bytes needed, exactly where they do not fit
  pub fits : (z : ℤ) → v ≡ Accepted z → length (completion_bytes y p) ≤ room
  pub short : (s : Subject) (f : Fault) → v ≡ Refused s f → Short (length (completion_bytes y p)) room s f

-- two answers that are not the same
pub apart : {P : Type 0} → ◌≡◌ {A = ℕ} 0 1 → P
apart e = absurd (omega arith)

-- acceptance or 7
data Kept (y : Stated) (p : Plan) (room : ℕ) : Verdict → Type 0 where
  kept : length (completion_bytes y p) ≤ room → Kept y p room (Accepted (our_surplus y.case p))
  short : room < length (completion_bytes y p) → Kept y p room (Refused S.Result (TooShort (length (completion_bytes y p))))

keeps : (y : Stated) (p : Plan) (room : ℕ) → Kept y p room (accepts (our_surplus y.case p) (length (completion_bytes y p)) room)
unfolding accepts
keeps y p room = go (leb (length (completion_bytes y p)) room) refl
  where
    go : (b : Bool) → leb (length (completion_bytes y p)) room ≡ b → Kept y p room (pick b (Accepted (our_surplus y.case p)) (Refused S.Result (TooShort (length (completion_bytes y p)))))
    go true e = kept (leb-true _ _ e)
    go false e = short (leb-false _ _ e)

right_kept : (y : Stated) (p : Plan) (room : ℕ) (v : Verdict) → Kept y p room v → Meets y.case.system p (whole (ours y.case p)) → Right y p room v
unfolding our_surplus
right_kept y p room v (kept h) m = record {
  broken-none = λ b e x n. apart (cc);
  none-broken = λ n. absurd (n (whole (ours y.case p)) m);
  named = λ b e. apart (cc);
  meets = λ z e. m;
  surplus = λ z e. cc;
  best = λ z e x n. let s : surplus_of y.case p (whole (ours y.case p)) ≡ z = cc in rw (sym s) (ours-best y.case p x n);
  fits = λ z e. h;
  short = λ s f e. apart (cc);
}
right_kept y p room v (short h) m = record {
  broken-none = λ b e x n. apart (cc);
  none-broken = λ n. absurd (n (whole (ours y.case p)) m);
  named = λ b e. apart (cc);
  meets = λ z e. m;
  surplus = λ z e. apart (cc);
  best = λ z e x n. apart (cc);
  fits = λ z e. apart (cc);
  short = λ s f e. let g : TooShort (length (completion_bytes y p)) ≡ f = cc in record { message = cc; number = rw (sym g) refl; returned = rw (sym g) refl; truly = h };
}

right-first : (y : Stated) (p : Plan) (room : ℕ) (v : Verdict) → Floored y.case p → Kept y p room v → (bs : List Breach) → breaches y.case.system p ≡ bs → Right y p room (unless_broken bs v)
right-first y p room v low k [] e = right_kept y p room v k (ours-meets y.case p low e)
right-first y p room v low k (b ∷ bs) e = record {
  broken-none = λ b' f x n. let g = every-none y.case.system p n.rules in apart (cc);
  none-broken = λ n. (b, refl);
  named = λ b' f. let g : b ≡ b' = cc in rw (sym g) (first-fails y.case.system p b bs e);
  meets = λ z f. apart (cc);
  surplus = λ z f. apart (cc);
  best = λ z f x n. apart (cc);
  fits = λ z f. apart (cc);
  short = λ s f e. apart (cc);
}

pub right-verdict : (y : Stated) (p : Plan) → Floored y.case p → (room : ℕ) → Right y p room (verdict y p room)
unfolding verdict
right-verdict y p low room = right-first y p room (accepts (our_surplus y.case p) (length (completion_bytes y p)) room) low (keeps y p room) (breaches y.case.system p) refl
