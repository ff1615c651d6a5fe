-- Reading and judging a case of edition e as it was before edition 4: by the small widths and limits, on one busbar. The newest judgement of messages of editions 1 to 3 is this one
-- (`theorems/specs/SizesAsBefore.antt`).
use Rattle.std.specs.Prelude.{List, ℕ, length}
use Rattle.layouts.specs.Layout.{Layout, Whole, passes, fails, fixed, held, ◌▸◌, bytes, read_whole}
use Rattle.model.specs.declared.Subject.TheVariants as S
use Rattle.model.specs.declared.Verdict.TheVariants.{Refused}
use Rattle.model.specs.Case.{Case, Plan}
use Rattle.model.specs.Forced.{intervals, devices}
use Rattle.model.specs.OneBar.{breaches, ours, our_surplus, completion_by}
use Rattle.model.specs.Editions.{Widths, Largest, small_widths}
use Rattle.model.specs.ByEdition.{Stated, case_kind, content_by, plan_by}
use Rattle.model.specs.Judgement.{Judged, written, counts_of, energy_windows, accepts, unless_broken, buffer_after, refused_as}

-- a case's message whose edition is e, by these widths
unfoldable pub case_by : Widths → ℕ → Largest → Layout Case
case_by w e l = held (λ v. v.1.1) (λ c. (case_kind, (e, c))) (fixed case_kind ▸ fixed e ▸ content_by w e l)

unfoldable pub read_case : ℕ → Largest → List ℕ → Whole Case
read_case e l s = read_whole (case_by small_widths e l) s

unfoldable pub read_plan : ℕ → Case → List ℕ → Whole Plan
read_plan e c s = read_whole (plan_by small_widths e (devices c.system) (intervals c.system)) s

unfoldable pub completion_bytes : ℕ → Case → Plan → List ℕ
completion_bytes e c p = let q = c.system in bytes ((completion_by small_widths e (counts_of q) (energy_windows q)).write (written q (ours c p) (our_surplus c p)))

unfoldable pub judged : ℕ → Case → Plan → List ℕ → Judged
judged e c p buffer =
    let out = completion_bytes e c p in
    let v = unless_broken (breaches c.system p) (accepts (our_surplus c p) (length out) (length buffer)) in
    record { verdict = v; result = buffer_after v out buffer }

abbrev pub with_plan : ℕ → Case → List ℕ → Whole Plan → Judged
with_plan e c buffer (passes p) = judged e c p buffer
with_plan e c buffer (fails f) = refused_as (Refused S.Plan f) buffer

abbrev pub with_case : ℕ → List ℕ → List ℕ → Whole Case → Judged
with_case e ps buffer (passes c) = with_plan e c buffer (read_plan e c ps)
with_case e ps buffer (fails f) = refused_as (Refused S.Case f) buffer

unfoldable pub judgement : ℕ → Largest → List ℕ → List ℕ → List ℕ → Judged
judgement e l cs ps buffer = with_case e ps buffer (read_case e l cs)
