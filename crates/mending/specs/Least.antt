-- What `mended_by` answers: a change that mends the plan and is ahead of every other that does, by "the smallest change in kW; then earlier interval, lower device, lower
-- new power"; and none exactly where no change mends it.
use Rattle.std.specs.Prelude.{◌≡◌, ◌⊎◌, ℕ, ◌≤◌, ◌<◌, T}
use Rattle.std.proofs.Math.Option.{Option, none, some}
use mathlib.Core.List.{List, [], ◌∷◌}
use Rattle.model.specs.Case.{System, Plan}
use Rattle.model.specs.Forced.{intervals, devices}
use Rattle.model.specs.Rules.{Lex}
use Rattle.mending.specs.Mending.{Change, mends, change, replacements, those}

-- a change of a figure of the plan, to one from 0 to the most
pub record Within (q : System) (most : ℕ) (c : Change) : Type 0 where
  pub interval : c.interval < intervals q
  pub device : c.device < devices q
  pub power : c.power ≤ most

-- and one whose plan breaks no rule
pub record Mends (most : ℕ) (q : System) (p : Plan) (c : Change) : Type 0 where
  pub within : Within q most c
  pub unbroken : T (mends q p c)

abbrev pub turn : Change → List ℕ
turn c = c.interval ∷ c.device ∷ c.power ∷ []

abbrev pub Earlier : Change → Change → Type 0
Earlier c d = Lex (turn c) (turn d)

-- ---- what is answered
module _ (most : ℕ) (q : System) (p : Plan) where
  abbrev pub mending : List Change
  mending = those (mends q p) (replacements q most)

  -- "with the smallest change in kW; then earlier interval, lower device, lower new power"
  abbrev pub rank_of : Change → List ℕ
  rank_of c = change q p c ∷ turn c

  pub record Least (c : Change) : Type 0 where
    pub mends : Mends most q p c
    pub first : (d : Change) → Mends most q p d → (c ≡ d) ⊎ Lex (rank_of c) (rank_of d)

  -- what the answer promises
  abbrev pub Answers : Option Change → Type 0
  Answers (some c) = Least c
  Answers none = (c : Change) → Mends most q p c → ⊥
