-- "the interval, device and new online power such that the plan with that one figure replaced is accepted": the answer is the desk's too.
use Rattle.std.specs.Prelude.{◌≡◌, ℕ, suc, ◌≤◌, ◌<◌, length}
use mathlib.Core.List.{List}
use Rattle.numbers.specs.Sum.{All}
use Rattle.layouts.specs.Layout.{passes, bytes}
use Rattle.model.specs.declared.Verdict.TheVariants as Y
use Rattle.model.specs.Case.{Plan}
use Rattle.model.specs.Forced.{devices, setting}
use Rattle.model.specs.Editions.{Largest}
use Rattle.model.specs.ByEdition.{Stated, stated_in}
use Rattle.model.specs.Judgement.{read_plan, verdict, judgement, our_surplus, completion_bytes}
use Rattle.mending.specs.declared.Mending.TheVariants.{Accepted}
use Rattle.mending.specs.Mending.{Change, mended, most_online, replaced}
use Rattle.mending.specs.Least.{Least}
use Rattle.mending.specs.Mendings.{mendings}
use Rattle.mended_messages.specs.Fits.{replaced_bytes}
use Rattle.mended_messages.specs.OneField.{OneField, online_place}

-- a plan's message and the one with a power replaced: the same bits but for that field
pub record FieldPut (x : Stated) (p : Plan) (c : Change) (ps : List ℕ) : Type 0 where
  pub before : List ℕ
  pub after : List ℕ
  pub was : ps ≡ bytes before
  pub is : replaced_bytes x p c ≡ bytes after
  pub one : OneField (online_place x.edition (devices x.case.system) c.interval c.device) (setting x.case.system p c.interval c.device).online c.power before after

-- what an answer "mended" of a case's and a plan's bytes promises, by a reader of counts up to l; interval and device count from 1
pub record PutIn (l : Largest) (cs ps : List ℕ) (t i v : ℕ) : Type 0 where
  pub stated : Stated
  pub case : stated_in l cs ≡ passes stated
  pub plan : Plan
  pub read : read_plan stated ps ≡ passes plan
  pub change : Change
  pub named : (t ≡ suc change.interval) × (i ≡ suc change.device) × (v ≡ change.power)
  -- it is the least change that mends the plan
  pub least : Least most_online stated.case.system plan change
  -- "the plan with that one figure replaced", as its edition's layout writes it, passes reading as that plan,
  pub reads : read_plan stated (replaced_bytes stated plan change) ≡ passes (replaced plan change)
  -- differs from the plan's message in the 17 bits of that online power alone,
  pub field : All (λ b. b < 256) ps → FieldPut stated plan change ps
  -- is accepted by the desk, with any result buffer long enough,
  pub accepted : (buffer : List ℕ) → length (completion_bytes stated (replaced plan change)) ≤ length buffer
      → (judgement l cs (replaced_bytes stated plan change) buffer).verdict ≡ Y.Accepted (our_surplus stated.case (replaced plan change))
  -- and needs no mending
  pub mended : mendings l cs (replaced_bytes stated plan change) ≡ Accepted (our_surplus stated.case (replaced plan change))
