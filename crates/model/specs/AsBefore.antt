-- Edition 1 as before: a message of edition 1 is read and written by the layouts of every edition as `Messages` says, which is all that an edition 1 message means.
use mathlib.Core.List.{List, map}
use Prim.Native.Nat.{ℕ}
use Rattle.layouts.specs.Layout.{Layout, ◌▸◌, held, fixed}
use Rattle.model.specs.Case.{Case, Plan, Setting, no_flow}
use Rattle.model.specs.Editions.{Largest}
use Rattle.model.specs.ByEdition.{Stated, content, case_kind}

-- a case with its edition beside it
abbrev pub stated : ℕ → Case → Stated
stated e c = record { edition = e; case = c }

-- a plan of edition 1 in the newest form
abbrev pub in_form : Plan → Plan
in_form p = record { settings = p.settings; flows = map (λ (row : List Setting). no_flow) p.settings }

-- ---- case

-- what is read of a case's message whose edition is 1
unfoldable pub first : Largest → Layout Case
first l = held (λ v. v.1.1) (λ c. (case_kind, (1, c))) (fixed case_kind ▸ fixed 1 ▸ content 1 l)
