-- What inspecting a case finds.
use Rattle.std.specs.Prelude.{◌≡◌, List, ℕ}
use Rattle.layouts.specs.declared.Fault.{Fault}
use Rattle.layouts.specs.Layout.{Whole, passes, fails}
use Rattle.layouts.specs.Numbers.{Tells}
use Rattle.model.specs.declared.Inspected.{Inspected}
use Rattle.model.specs.declared.Inspected.TheVariants as I
use Rattle.model.specs.Forced.{intervals, devices, zones}
use Rattle.model.specs.Editions.{Largest}
use Rattle.model.specs.ByEdition.{Stated, stated_in, case_layout}
use Rattle.refusals.proofs.Refusals.{CaseRefusal}

-- the counts of a case that passes reading, or its fault: what the batch program prints for message 0
abbrev pub inspected_of : Whole Stated → Inspected
inspected_of (passes x) = let q = x.case.system in I.Counts (devices q) (intervals q) (zones q)
inspected_of (fails f) = I.Refused f

-- `l` are the largest counts that the reader takes
pub record Inspects (l : Largest) (cs : List ℕ) (r : Inspected) : Type 0 where
  pub is : r ≡ inspected_of (stated_in l cs)
  -- a refusal has the number and the place that a judgement's has, which `Tells` gives their meaning
  pub refused : (f : Fault) → r ≡ I.Refused f → Tells (case_layout l) cs f
  pub field : (f : Fault) → r ≡ I.Refused f → CaseRefusal l cs f
