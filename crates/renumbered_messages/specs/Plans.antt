-- A plan that passes reading, its devices rearranged, has a message that passes reading with the rearranged case; so every pair has its rearranged pair, and A.9's writing writes it.
use Rattle.std.specs.Prelude.{◌≡◌, ℕ, ◌≤◌, length, ℤ}
use mathlib.Core.List.{List, []}
use Rattle.layouts.specs.Layout.{passes, bytes}
use Rattle.layouts.specs.Since.{since}
use Rattle.model.specs.Case.{System, Plan, Setting, no_setting, no_flow}
use Rattle.model.specs.Forced.{intervals, devices}
use Rattle.model.specs.Editions.{newest, Largest, most_devices, most_intervals}
use Rattle.model.specs.Messages as M
use Rattle.model.specs.ByEdition as B
use Rattle.model.specs.ByEdition.{Stated, stated_in}
use Rattle.model.specs.Judgement.{read_plan}
use Rattle.writing.specs.Again.{Fit}
use Rattle.renumbering.specs.Permute.{Renumbering}
use Rattle.renumbering.specs.Renumbered.{rearranged_plan}
use Rattle.renumbered_messages.specs.Each.{Each}

-- an interval's part of a plan: so many settings, of each of which S holds, and the flow, which can be written
abbrev pub RowHas : (Setting → Type 1) → ℕ → ℕ → (List Setting × ℤ) → Type 1
RowHas S e devices v = (length v.0 ≡ devices) × Each S no_setting v.0 × Fit (since e 5 no_flow B.flow) 18 v.1

abbrev pub no_row : List Setting × ℤ
no_row = ([], no_flow)

-- what is known of a plan that passes reading, where S holds of each setting that is read
pub record Rows (S : Setting → Type 1) (e devices intervals : ℕ) (p : Plan) : Type 1 where
  pub long : length p.settings ≡ intervals
  pub step : length p.flows ≡ length p.settings
  pub each : Each (RowHas S e devices) no_row (M.pairs p.settings p.flows)

-- ---- a pair
module _ (l : Largest) (most : l.devices ≤ most_devices) (long : l.intervals ≤ most_intervals)
    (cs : List ℕ) (x : Stated) (h : stated_in l cs ≡ passes x) (ps : List ℕ) (p : Plan) (k : read_plan x ps ≡ passes p)
    (n : ℕ) (later : x.edition ≤ n) (known : n ≤ newest) (r : Renumbering (devices x.case.system)) where
  abbrev pub q : System
  q = x.case.system

  -- the plan with its devices rearranged, in edition n
  unfoldable pub rearranged_plan_bytes : List ℕ
  rearranged_plan_bytes = bytes ((B.plan_layout n (devices q) (intervals q)).write (rearranged_plan r p))
