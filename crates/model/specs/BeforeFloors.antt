-- Judging as it was before blocks had floors: rule 19 by the caps alone, blocks filled in price order alone, on one busbar. The newest judgement of messages of editions 1 and 2
-- is this one (`theorems/specs/AsBefore.antt`); their blocks are read and written without floors (`AsBefore.block-as`).
use Rattle.std.specs.Prelude.{Bool, List, [], ◌∷◌, ◌++◌, map, ℕ, length, ℤ}
use Rattle.numbers.specs.Base.{up_to, gather}
use Rattle.layouts.specs.Layout.{Whole, passes, fails, bytes}
use Rattle.model.specs.declared.Breach.{Breach}
use Rattle.model.specs.declared.Subject.TheVariants as S
use Rattle.model.specs.declared.Verdict.TheVariants.{Refused}
use Rattle.model.specs.Case.{Case, Plan, System}
use Rattle.model.specs.Forced.{intervals, devices, cap, consuming, power}
use Rattle.model.specs.Rules.{cell_breach}
use Rattle.model.specs.Breaches.{first_tests, caps_kept, reactive_tests, failing, all_windows}
use Rattle.model.specs.Completion.{Completion, block_price}
use Rattle.model.specs.OneBar as O
use Rattle.model.specs.OneBar.{surplus_of, completion_by}
use Rattle.model.specs.Ours.{filling, with_blocks, whole}
use Rattle.model.specs.Editions.{widths_of}
use Rattle.model.specs.ByEdition.{Stated}
use Rattle.model.specs.Judgement.{Judged, written, counts_of, energy_windows, accepts, unless_broken, buffer_after, refused_as}

-- 19 "p ≤ sum of block caps"
unfoldable pub real_tests : System → Plan → ℕ → ℕ → List (ℕ × Bool)
real_tests q p t i = first_tests q p t i ++ ((19, caps_kept q p t i) ∷ [])

unfoldable pub cell_breaches : System → Plan → ℕ → ℕ → List Breach
cell_breaches q p t i = map (cell_breach t i) (failing (real_tests q p t i ++ reactive_tests q p t i))

unfoldable pub breaches : System → Plan → List Breach
breaches q p = gather (λ t. gather (cell_breaches q p t) (up_to (devices q))) (up_to (intervals q)) ++ all_windows q p

-- "lower-numbered block first", in price order
unfoldable pub ours : Case → Plan → Completion ℕ
ours c p = with_blocks (λ t i. filling (consuming c.system i) (block_price c t i) (cap c.system t i) (power c.system p t i)) (O.ours c p)

unfoldable pub our_surplus : Case → Plan → ℤ
our_surplus c p = surplus_of c p (whole (ours c p))

unfoldable pub completion_bytes : Stated → Plan → List ℕ
completion_bytes x p = let q = x.case.system in bytes ((completion_by (widths_of x.edition) x.edition (counts_of q) (energy_windows q)).write (written q (ours x.case p) (our_surplus x.case p)))

unfoldable pub judged : Stated → Plan → List ℕ → Judged
judged x p buffer =
    let out = completion_bytes x p in
    let v = unless_broken (breaches x.case.system p) (accepts (our_surplus x.case p) (length out) (length buffer)) in
    record { verdict = v; result = buffer_after v out buffer }

abbrev pub with_plan : Stated → List ℕ → Whole Plan → Judged
with_plan x buffer (passes p) = judged x p buffer
with_plan x buffer (fails f) = refused_as (Refused S.Plan f) buffer
