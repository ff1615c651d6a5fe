-- What is the definition's answer keeps the promises.
use Rattle.std.specs.Prelude.{◌≡◌, List, ℕ, ◌≤◌}
use Rattle.std.proofs.Common.{sym, ap, ◌∙◌, arith}
use Rattle.layouts.specs.declared.Fault.{Fault}
use Rattle.layouts.specs.Layout.{Whole, passes, fails}
use Rattle.model.specs.declared.Inspected.{Inspected}
use Rattle.model.specs.declared.Inspected.TheVariants as I
use Rattle.model.specs.Editions.{Largest, most_devices, most_intervals}
use Rattle.model.specs.ByEdition.{Stated, stated_in}
use Rattle.theorems.proofs.Promise.{case-tells}
use Rattle.refusals.proofs.Refusals.{case-refusal}
use Rattle.case_inspection.specs.Inspection.{inspected_of, Inspects}

refused-fails : (w : Whole Stated) (f : Fault) → I.Refused f ≡ inspected_of w → w ≡ fails f
refused-fails (passes x) f e = absurd (let z : ◌≡◌ {A = ℕ} 0 1 = cc in omega (arith, z))
refused-fails (fails g) f e = let h : g ≡ f = cc in ap fails h

pub inspects : (l : Largest) → l.devices ≤ most_devices → l.intervals ≤ most_intervals → (cs : List ℕ) {r : Inspected} → r ≡ inspected_of (stated_in l cs) → Inspects l cs r
inspects l most long cs e = record {
  is = e;
  refused = λ f h. case-tells l most long cs f (refused-fails (stated_in l cs) f (sym h ∙ e));
  field = λ f h. case-refusal l cs f (refused-fails (stated_in l cs) f (sym h ∙ e));
}
