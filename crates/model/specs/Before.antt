-- Judging messages of edition 1 as it was before there were others: over the page of what they mean (`Messages`), by the rules and the surplus of real power
-- alone, with blocks that have no floors, on one busbar. The newest judgement of edition 1 messages is this one (`theorems/specs/AsBefore.antt`).
use Rattle.std.specs.Prelude.{List, ◌++◌, map, ℕ, length, ℤ}
use Rattle.numbers.specs.Base.{up_to, gather}
use Rattle.model.specs.declared.Breach.{Breach}
use Rattle.layouts.specs.Layout.{Layout, Whole, passes, fails, read_whole, bytes}
use Rattle.model.specs.declared.Subject.TheVariants as S
use Rattle.model.specs.declared.Verdict.TheVariants.{Refused}
use Rattle.model.specs.Case.{Case, Plan, System}
use Rattle.model.specs.Forced.{intervals, devices}
use Rattle.model.specs.Rules.{cell_breach}
use Rattle.model.specs.Breaches.{failing, all_windows}
use Rattle.model.specs.OneBar.{real_surplus}
use Rattle.model.specs.Ours.{whole}
use Rattle.model.specs.BeforeFloors.{real_tests, ours}
use Rattle.model.specs.Messages.{edition1, Written, case_layout, plan_layout, completion_layout}
use Rattle.model.specs.Judgement.{Judged, written, energy_windows, counts_of, accepts, unless_broken, buffer_after, refused_as}

unfoldable pub read_case : List ℕ → Whole Case
read_case s = read_whole (case_layout edition1) s

unfoldable pub read_plan : System → List ℕ → Whole Plan
read_plan q s = read_whole (plan_layout edition1 (devices q) (intervals q)) s

abbrev pub completion_of : System → Layout Written
completion_of q = completion_layout edition1 (counts_of q) (energy_windows q)

-- "by interval, then device, then number", 1 to 19; rule 20 behind all intervals
unfoldable pub cell_breaches : System → Plan → ℕ → ℕ → List Breach
cell_breaches q p t i = map (cell_breach t i) (failing (real_tests q p t i))

unfoldable pub breaches : System → Plan → List Breach
breaches q p = gather (λ t. gather (cell_breaches q p t) (up_to (devices q))) (up_to (intervals q)) ++ all_windows q p

unfoldable pub our_surplus : Case → Plan → ℤ
our_surplus c p = real_surplus c p (whole (ours c p))

unfoldable pub completion_bytes : Case → Plan → List ℕ
completion_bytes c p = bytes ((completion_of c.system).write (written c.system (ours c p) (our_surplus c p)))

unfoldable pub judged : Case → Plan → List ℕ → Judged
judged c p buffer =
    let out = completion_bytes c p in
    let v = unless_broken (breaches c.system p) (accepts (our_surplus c p) (length out) (length buffer)) in
    record { verdict = v; result = buffer_after v out buffer }

abbrev pub with_plan : Case → List ℕ → Whole Plan → Judged
with_plan c buffer (passes p) = judged c p buffer
with_plan c buffer (fails f) = refused_as (Refused S.Plan f) buffer

abbrev pub with_case : List ℕ → List ℕ → Whole Case → Judged
with_case ps buffer (passes c) = with_plan c buffer (read_plan c.system ps)
with_case ps buffer (fails f) = refused_as (Refused S.Case f) buffer

unfoldable pub judgement : List ℕ → List ℕ → List ℕ → Judged
judgement cs ps buffer = with_case ps buffer (read_case cs)
