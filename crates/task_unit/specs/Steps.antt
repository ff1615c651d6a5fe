-- A task on bytes: the case refused, or the task done for it.
use Rattle.std.specs.Prelude.{◌≡◌, refl, List, ℕ, ◌≤◌}
use Rattle.std.proofs.Common.{sym, ap, ◌∙◌}
use Rattle.layouts.specs.declared.Fault.{Fault}
use Rattle.layouts.specs.Layout.{Whole, passes, fails}
use Rattle.model.specs.declared.Inspected.TheVariants as I
use Rattle.model.specs.Editions.{Largest, most_devices, most_intervals}
use Rattle.model.specs.ByEdition.{Stated, stated_in}
use Rattle.row_places.specs.declared.Front.{Front}
use Rattle.row_places.specs.declared.Counts.{Counts}
use Rattle.case_reader.specs.Whole.{CasePassed, CaseRefused}
use Rattle.decoded_cases.specs.Decoded.{stated_first}
use Rattle.decoded_cases.specs.Cases.{passed, failed}
use Rattle.tellings.specs.declared.Told.{Told}
use Rattle.tellings.specs.Told.{told_case}
use Rattle.tasks.specs.declared.Task.{Task}
use Rattle.tasks.specs.declared.Task.TheVariants as T
use Rattle.tasks.specs.Served.{Served, served}
use Rattle.task_work.specs.Steps.{ReadAs}

-- every task tells a refused case alike, with nothing touched
refused : (task : Task) (ms before table : List ℕ) (f : Fault) → record { told = told_case (I.Refused f); result = before; rows = table } ≡ served task ms before table (fails f)
refused T.Inspect ms before table f = refl
refused T.Judge ms before table f = refl
refused T.Breaches ms before table f = refl
refused T.WriteCase ms before table f = refl
refused T.WritePlan ms before table f = refl
refused T.Copy ms before table f = refl
refused T.ReadCompletion ms before table f = refl
refused T.ReadMarket ms before table f = refl
refused T.Mend ms before table f = refl
refused T.Batch ms before table f = refl

-- cases that are read alike are served alike
pub alike : (task : Task) (ms before table : List ℕ) {w w' : Whole Stated} {s : Served} → w ≡ w' → s ≡ served task ms before table w → s ≡ served task ms before table w'
alike task ms before table e h = h ∙ ap (served task ms before table) e

module _ (l : Largest) (most : l.devices ≤ most_devices) (long : l.intervals ≤ most_intervals) (cs : List ℕ) where
  pub case-fails : (task : Task) (ms before table : List ℕ) {f : Fault} {t : Told} → CaseRefused l.devices l.intervals cs f → t ≡ told_case (I.Refused f)
      → record { told = t; result = before; rows = table } ≡ served task ms before table (stated_in l cs)
  case-fails task ms before table {f} h k = alike task ms before table (sym (failed l most long cs h)) (rw k (refused task ms before table f))

  module _ (halves : List ℕ) (zones minima devices cells : List (List ℕ)) (front : Front) (n : Counts) (h : CasePassed l.devices l.intervals cs halves zones minima devices cells front n) where
    abbrev held : Stated
    held = stated_first front n halves zones minima devices cells

    pub read_as : ReadAs cs held
    read_as = record { largest = l; most = most; long = long; is = passed l most long cs halves zones minima devices cells front n h }

    pub case-passes : (task : Task) (ms before table : List ℕ) {s : Served} → s ≡ served task ms before table (passes held) → s ≡ served task ms before table (stated_in l cs)
    case-passes task ms before table k = alike task ms before table (sym (passed l most long cs halves zones minima devices cells front n h)) k
