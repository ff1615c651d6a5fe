-- A plan that passes reading, one online power replaced by another from 0 to 100,000, has a message of its edition that passes reading.
use Rattle.std.specs.Prelude.{ℕ}
use mathlib.Core.List.{List}
use Rattle.layouts.specs.Layout.{bytes}
use Rattle.model.specs.Case.{Plan}
use Rattle.model.specs.Forced.{intervals, devices}
use Rattle.model.specs.ByEdition as B
use Rattle.model.specs.ByEdition.{Stated}
use Rattle.mending.specs.Mending.{Change, replaced}

-- ---- its message

-- "the plan with that one figure replaced", as the layout of its edition writes it
unfoldable pub replaced_bytes : Stated → Plan → Change → List ℕ
replaced_bytes x p c = bytes ((B.plan_layout x.edition (devices x.case.system) (intervals x.case.system)).write (replaced p c))
