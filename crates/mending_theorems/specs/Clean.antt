-- A plan that breaks no rule: every test of every interval and device, of every link and window holds.
use Rattle.std.specs.Prelude.{ℕ, ◌<◌, T, length}
use mathlib.Core.List.{List}
use Rattle.model.specs.Case.{System, Plan}
use Rattle.model.specs.Forced.{intervals, devices, device}
use Rattle.model.specs.Breaches.{cell_tests, link_test, window_test}
use Rattle.mending.specs.Mending.{is_empty}
use Rattle.mending_theorems.specs.Held.{Held}

-- ---- lists that are empty
abbrev pub None : {A : Type 0} → List A → Type 0
None l = T (is_empty l)

-- ---- the day
module _ (q : System) (p : Plan) where
  pub record Clean : Type 0 where
    pub cells : (t i : ℕ) → t < intervals q → i < devices q → Held (cell_tests q p t i)
    pub links : (t : ℕ) → t < intervals q → T (link_test q p t)
    pub windows : (i w : ℕ) → i < devices q → w < length (device q i).start_windows → T (window_test q p i w)
