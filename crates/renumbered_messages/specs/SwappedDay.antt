-- The two-set day with its sets swapped, worked by hand: tabulated facts on figures, and on the messages of the rearranged pair.
use Rattle.std.specs.Prelude.{List, [], ◌∷◌, ℕ, ℤ, pos, negsuc}
use Rattle.model.specs.Case.{Case, Plan, StartWindow, no_reactive}
use Rattle.model.specs.Day.{day_case, reactive_plan, none_added}

unfoldable pub day : List ℕ → List StartWindow → Case
day z s = day_case (record { off = 600; down = 60; zoned = z; starts = s; energies = []; mismatch = 1000; added = none_added })

unfoldable pub plan : ℕ → ℕ → Plan
plan a b = reactive_plan no_reactive no_reactive no_reactive a b 0

-- a case and a plan; what judging tells of them, the list of their breaches, and both of them swapped
pub record Row : Type 0 where
  pub case : Case
  pub plan : Plan
  pub tells : List ℤ
  pub lists : List ℕ
  pub swapped_tells : List ℤ
  pub swapped_lists : List ℕ

unfoldable pub table : List Row
table =
    -- (a), and (h) with a zone of both
    record { case = day [] []; plan = plan 150 150; tells = pos 0 ∷ pos 167860 ∷ []; lists = []; swapped_tells = pos 0 ∷ pos 167860 ∷ []; swapped_lists = [] } ∷
    record { case = day (50 ∷ []) []; plan = plan 150 150; tells = pos 0 ∷ negsuc 1452139 ∷ []; lists = []; swapped_tells = pos 0 ∷ negsuc 1452139 ∷ []; swapped_lists = [] } ∷
    -- (b): the breach goes with set 1
    record {
      case = day [] [];
      plan = plan 151 151;
      tells = pos 1 ∷ pos 5 ∷ pos 2 ∷ pos 1 ∷ pos 0 ∷ [];
      lists = 5 ∷ 2 ∷ 1 ∷ 0 ∷ [];
      swapped_tells = pos 1 ∷ pos 5 ∷ pos 2 ∷ pos 2 ∷ pos 0 ∷ [];
      swapped_lists = 5 ∷ 2 ∷ 2 ∷ 0 ∷ [];
    } ∷
    -- (j): so does that of its window
    record {
      case = day [] (record { from = 60; until = 120; most = 0 } ∷ []);
      plan = plan 150 150;
      tells = pos 1 ∷ pos 20 ∷ pos 0 ∷ pos 1 ∷ pos 1 ∷ [];
      lists = 20 ∷ 0 ∷ 1 ∷ 1 ∷ [];
      swapped_tells = pos 1 ∷ pos 20 ∷ pos 0 ∷ pos 2 ∷ pos 1 ∷ [];
      swapped_lists = 20 ∷ 0 ∷ 2 ∷ 1 ∷ [];
    } ∷
    -- "The named first breach may differ": both sets break rules in interval 2, and the other one comes first
    record {
      case = day [] [];
      plan = plan 151 201;
      tells = pos 1 ∷ pos 5 ∷ pos 2 ∷ pos 1 ∷ pos 0 ∷ [];
      lists = 5 ∷ 2 ∷ 1 ∷ 0 ∷ 16 ∷ 2 ∷ 2 ∷ 0 ∷ 19 ∷ 2 ∷ 2 ∷ 0 ∷ [];
      swapped_tells = pos 1 ∷ pos 16 ∷ pos 2 ∷ pos 1 ∷ pos 0 ∷ [];
      swapped_lists = 16 ∷ 2 ∷ 1 ∷ 0 ∷ 19 ∷ 2 ∷ 1 ∷ 0 ∷ 5 ∷ 2 ∷ 2 ∷ 0 ∷ [];
    } ∷ []
