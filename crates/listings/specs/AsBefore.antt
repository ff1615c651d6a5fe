-- Lists of breaches of older editions as before, on bytes: for every message whose edition is 1 to 4 the list without rule 27, whose edition is 1 or 2 with rule 19 by the
-- caps alone, whose edition is 1 with rules 1 to 20 alone; the same refusals, the same answer and the same bytes in the list's buffer.
-- What A.3 and A.4 changed holds in every edition: energy goes by the minute, which no rule reads, and a count of four startup states is refused.
use Rattle.std.specs.Prelude.{List, ℕ, length}
use Rattle.layouts.specs.Layout.{Whole, passes, fails}
use Rattle.model.specs.declared.Breach.{Breach}
use Rattle.model.specs.declared.Subject.TheVariants as S
use Rattle.model.specs.declared.Listing.TheVariants.{Refused}
use Rattle.model.specs.Case.{Case, System, Plan}
use Rattle.model.specs.Messages as M
use Rattle.model.specs.Editions.{Largest}
use Rattle.model.specs.ByEdition.{cell, cell_with}
use Rattle.model.specs.Breaches.{breaches}
use Rattle.model.specs.Lists.{list_bytes, listing, list_after, Listings}
use Rattle.model.specs.OneBar as O
use Rattle.model.specs.BeforeFloors as F
use Rattle.model.specs.Before as P
use Rattle.model.specs.AsBefore.{stated}
use Rattle.theorems.specs.ReadOnOne.{read_case, read_plan}

-- ---- lists by the rules of a page
abbrev pub Rules : Type 0
Rules = System → Plan → List Breach

-- of a plan that passed reading
unfoldable pub listed_by : Rules → System → Plan → List ℕ → Listings
listed_by rules q p buffer = let bs = rules q p in let r = listing bs (length buffer) in record { answer = r; list = list_after r (list_bytes bs) buffer }

abbrev pub list_plan_by : Rules → System → List ℕ → Whole Plan → Listings
list_plan_by rules q buffer (passes p) = listed_by rules q p buffer
list_plan_by rules q buffer (fails f) = record { answer = Refused S.Plan f; list = buffer }

-- by how its plan is read
abbrev pub list_case_by : Rules → (Case → Whole Plan) → List ℕ → Whole Case → Listings
list_case_by rules plan buffer (passes c) = list_plan_by rules c.system buffer (plan c)
list_case_by rules plan buffer (fails f) = record { answer = Refused S.Case f; list = buffer }

-- before edition 5, before edition 3, and before there were editions
unfoldable pub listings_on_one : ℕ → Largest → List ℕ → List ℕ → List ℕ → Listings
listings_on_one e l cs ps buffer = list_case_by O.breaches (λ c. read_plan (stated e c) ps) buffer (read_case (cell e) e l cs)

unfoldable pub listings_floorless : ℕ → Largest → List ℕ → List ℕ → List ℕ → Listings
listings_floorless e l cs ps buffer = list_case_by F.breaches (λ c. read_plan (stated e c) ps) buffer (read_case (cell_with e M.block) e l cs)

unfoldable pub listings_first : List ℕ → List ℕ → List ℕ → Listings
listings_first cs ps buffer = list_case_by P.breaches (λ c. P.read_plan c.system ps) buffer (P.read_case cs)
