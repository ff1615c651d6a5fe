-- A message written anew passes reading and holds the same figures; one of the newest edition is written as its own bytes; content and written bytes go together; and the verdict stays.
use Rattle.std.specs.Prelude.{◌≡◌, List, ℕ, ◌≤◌}
use Rattle.layouts.specs.Layout.{passes}
use Rattle.model.specs.Case.{System, Plan}
use Rattle.model.specs.Forced.{intervals, devices}
use Rattle.model.specs.Editions.{newest, Largest}
use Rattle.model.specs.ByEdition as B
use Rattle.model.specs.ByEdition.{Stated, stated_in}
use Rattle.model.specs.Judgement.{read_plan}
use Rattle.writing.specs.Again.{Fit}
use Rattle.writing.specs.Cases.{Small}

-- ---- a case

-- what is known of a case that passes reading
pub record Kept (l : Largest) (x : Stated) : Type 1 where
  pub edition : x.edition ≤ newest
  pub small : Small x.case
  pub fits : Fit (B.content newest l) 2624894 x.case

module _ (l : Largest) (cs : List ℕ) (x : Stated) (h : stated_in l cs ≡ passes x) (ps : List ℕ) (p : Plan) (k : read_plan x ps ≡ passes p) where
  abbrev pub q : System
  q = x.case.system

-- counts and figures of a plan
pub record PlanContent : Type 0 where
  pub devices : ℕ
  pub intervals : ℕ
  pub plan : Plan

abbrev pub content_of : System → Plan → PlanContent
content_of q p = record { devices = devices q; intervals = intervals q; plan = p }
