-- One day by edition: a plan is of its case's edition; what an edition adds changes no answer where it is neutral. Tabulated facts.
use Rattle.std.specs.Prelude.{Bool, List, [], ◌∷◌, ℕ, ◌+◌, T, ℤ, pos}
use Rattle.numbers.specs.Base.{every}
use Rattle.layouts.specs.Layout.{Whole, passes, fails, bytes}
use Rattle.model.specs.Case.{Plan, no_reactive, no_flow}
use Rattle.model.specs.Editions.{newest, batch}
use Rattle.model.specs.ByEdition.{Stated, case_layout, plan_layout, stated_in}
use Rattle.model.specs.AsBefore.{stated}
use Rattle.model.specs.Judgement.{judgement}
use Rattle.model.specs.Open.{open-rules, open-messages}
use Rattle.model.specs.Shown.{shown, eqℤ, eq_list}
use Rattle.model.specs.Vector.{digits, room}

-- a case of edition 1 with one device and one interval
case_one : List ℕ
case_one = digits 76 70673463178614279888787208863916406123763567257746608000319886500576861516174682162982840086794369830557109451321768251289524320775263472093169892640079851071976602737337166179860480 []

-- what it states, in the message of an edition
case_as : ℕ → Whole Stated → List ℕ
case_as e (passes x) = bytes ((case_layout batch).write (stated e x.case))
case_as e (fails f) = []

plan : Plan
plan = record { settings = (record { on = 1; online = 60; reserves = record { rgu = 3; rgd = 0; scr = 3; nsc = 0; rru_on = 4; rru_off = 0; rrd_on = 0; rrd_off = 0 }; reactive = no_reactive } ∷ []) ∷ []; flows = no_flow ∷ [] }

plan_as : ℕ → List ℕ
plan_as e = bytes ((plan_layout e 1 1).write plan)

-- the case's edition, the plan's, and the verdict's figures
record Row : Type 0 where
  of_case : ℕ
  of_plan : ℕ
  tells : List ℤ

agrees : Row → Bool
agrees r = eq_list eqℤ (shown (judgement batch (case_as r.of_case (stated_in batch case_one)) (plan_as r.of_plan) room).verdict) r.tells

rows : List Row
rows =
    record { of_case = 1; of_plan = 1; tells = pos 0 ∷ pos 3600 ∷ [] } ∷
    record { of_case = 2; of_plan = 2; tells = pos 0 ∷ pos 3600 ∷ [] } ∷
    record { of_case = 4; of_plan = 4; tells = pos 0 ∷ pos 3600 ∷ [] } ∷
    record { of_case = 5; of_plan = 5; tells = pos 0 ∷ pos 3600 ∷ [] } ∷
    -- "kind or edition wrong": the plan's is not its case's, though there is such an edition
    record { of_case = 1; of_plan = 2; tells = pos 2 ∷ pos 2 ∷ pos 2 ∷ pos 4 ∷ [] } ∷
    record { of_case = 2; of_plan = 1; tells = pos 2 ∷ pos 2 ∷ pos 2 ∷ pos 4 ∷ [] } ∷
    -- the case's is none that there is
    record { of_case = 0; of_plan = 0; tells = pos 2 ∷ pos 1 ∷ pos 2 ∷ pos 4 ∷ [] } ∷
    record { of_case = newest + 1; of_plan = newest + 1; tells = pos 2 ∷ pos 1 ∷ pos 2 ∷ pos 4 ∷ [] } ∷ []

rows_agree : T (every agrees rows)
unfolding open-rules open-messages digits room case_one case_as plan plan_as agrees rows
rows_agree = tt
