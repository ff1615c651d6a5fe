-- What listing every broken rule promises, for any bytes of a case and a plan and any buffer for the list.
use Rattle.std.specs.Prelude.{◌≡◌, ℕ, ◌*◌, ◌≤◌, ◌<◌, length, drop, ℤ}
use mathlib.Core.List.{List, [], ◌∷◌, ◌++◌, Memᴰ}
use Rattle.numbers.specs.Sum.{All}
use Rattle.numbers.specs.Every.{Ordered}
use Rattle.layouts.specs.declared.Fault.{Fault}
use Rattle.layouts.specs.declared.Fault.TheVariants.{TooShort}
use Rattle.layouts.specs.Layout.{Layout, passes, fails}
use Rattle.layouts.specs.Numbers.{Tells}
use Rattle.model.specs.declared.Breach.{Breach}
use Rattle.model.specs.declared.Subject.{Subject}
use Rattle.model.specs.declared.Subject.TheVariants as S
use Rattle.model.specs.declared.Verdict.{Verdict}
use Rattle.model.specs.declared.Verdict.TheVariants as W
use Rattle.model.specs.declared.Listing.TheVariants.{Listed, Refused}
use Rattle.model.specs.Case.{Plan}
use Rattle.model.specs.Forced.{intervals, devices}
use Rattle.model.specs.Editions.{Largest}
use Rattle.model.specs.ByEdition.{Stated, stated_in, case_layout}
use Rattle.model.specs.Rules.{Before}
use Rattle.model.specs.Breaches.{breaches}
use Rattle.model.specs.Named.{Failed}
use Rattle.model.specs.Judgement.{read_plan, verdict}
use Rattle.model.specs.Lists.{list_bytes, Listings}
use Rattle.theorems.specs.Promise.{plan_of}
use Rattle.theorems.specs.Theorem.{Short}
use Rattle.listings.specs.Sizes.{most_breaches}

-- judging answers with a surplus, or with 7 for its own buffer
pub data Unbroken : Verdict → Type 0 where
  accepted : (z : ℤ) → Unbroken (W.Accepted z)
  short : (n : ℕ) → Unbroken (W.Refused S.Result (TooShort n))

-- a list of so many bytes that the buffer cannot hold: 7 with the bytes needed, of the lent buffer, and no byte of it is touched
pub record NotHeld (needed : ℕ) (before : List ℕ) (l : Listings) : Type 0 where
  pub subject : Subject
  pub fault : Fault
  pub answer : l.answer ≡ Refused subject fault
  pub short : Short needed (length before) subject fault
  pub untouched : l.list ≡ before

-- what is listed of a plan that passed reading; `before` is the list's buffer as it came
pub record Lists (x : Stated) (p : Plan) (before : List ℕ) (l : Listings) : Type 0 where
  -- an entry is in the list exactly when the rule of that number fails at that place
  pub entry : (b : Breach) → Memᴰ b (breaches x.case.system p) → Failed x.case.system p b
  pub every : (b : Breach) → Failed x.case.system p b → Memᴰ b (breaches x.case.system p)
  -- "each breach exactly once, in document 01's order": strictly increasing
  pub order : Ordered Before (breaches x.case.system p)
  -- "the rest of the buffer unchanged, and return how many"
  pub fits : length (list_bytes (breaches x.case.system p)) ≤ length before → (l.answer ≡ Listed (length (breaches x.case.system p)))
      × (l.list ≡ list_bytes (breaches x.case.system p) ++ drop (length (list_bytes (breaches x.case.system p))) before)
  -- "refuses with 7 when the buffer can't hold the list, and writes nothing": exactly then
  pub too_long : length before < length (list_bytes (breaches x.case.system p)) → NotHeld (length (list_bytes (breaches x.case.system p))) before l
  pub only-long : (s : Subject) (f : Fault) → l.answer ≡ Refused s f → Short (length (list_bytes (breaches x.case.system p))) (length before) s f
  -- "The first entry is always the one the judgement names", whatever the result buffer's length
  pub first : (room : ℕ) (b : Breach) (bs : List Breach) → breaches x.case.system p ≡ b ∷ bs → verdict x p room ≡ W.Broken b
  -- "An accepted plan gives none": the list is empty exactly where judging accepts, or answers 7 for its own buffer
  pub none : (room : ℕ) → breaches x.case.system p ≡ [] → Unbroken (verdict x p room)
  pub only_none : (room : ℕ) → Unbroken (verdict x p room) → breaches x.case.system p ≡ []
  -- four bytes each, no more than the case's counts can have, and each figure fits its byte
  pub four : length (list_bytes (breaches x.case.system p)) ≡ 4 * length (breaches x.case.system p)
  pub few : length (breaches x.case.system p) ≤ most_breaches (devices x.case.system) (intervals x.case.system)
  pub small : All (λ n. n < 256) (list_bytes (breaches x.case.system p))

-- a message s that does not pass reading: the refusal that judging gives, and no byte of the list is touched
pub record NotListed {A : Type 0} (y : Layout A) (s : List ℕ) (which : Subject) (f : Fault) (before : List ℕ) (l : Listings) : Type 0 where
  pub answer : l.answer ≡ Refused which f
  pub number : Tells y s f
  pub untouched : l.list ≡ before

-- for a plan's bytes against a case that passed reading
pub record PlanListed (x : Stated) (ps before : List ℕ) (l : Listings) : Type 0 where
  pub plan-refused : (f : Fault) → read_plan x ps ≡ fails f → NotListed (plan_of x) ps S.Plan f before l
  pub lists : (p : Plan) → read_plan x ps ≡ passes p → Lists x p before l

-- and for the bytes of both, by a reader that takes counts up to these: "case, then plan"
pub record CaseListed (m : Largest) (cs ps before : List ℕ) (l : Listings) : Type 0 where
  pub case-refused : (f : Fault) → stated_in m cs ≡ fails f → NotListed (case_layout m) cs S.Case f before l
  pub case-passed : (x : Stated) → stated_in m cs ≡ passes x → PlanListed x ps before l
