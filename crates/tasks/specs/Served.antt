-- What each task answers and leaves, for a case as it was read.
use Rattle.std.specs.Prelude.{true, false, List, ℕ}
use Rattle.layouts.specs.Layout.{Whole}
use Rattle.model.specs.ByEdition.{Stated}
use Rattle.model.specs.Judgement as J
use Rattle.model.specs.Lists as L
use Rattle.writing.specs.Anew as W
use Rattle.market.specs.Copy as K
use Rattle.completion_reading.specs.Figures as R
use Rattle.mending.specs.Mendings as M
use Rattle.stacks.specs.Stack as B
use Rattle.case_inspection.specs.Inspection.{inspected_of}
use Rattle.tellings.specs.declared.Told.{Told}
use Rattle.tellings.specs.Told.{told_of, told_case, told_list, told_writing, told_copy, told_reading, told_mending}
use Rattle.stack_tellings.specs.Told.{told_stack}
use Rattle.tasks.specs.declared.Task.{Task}
use Rattle.tasks.specs.declared.Task.TheVariants as T

-- what is told; the result buffer and the table of numbers afterwards
pub record Served : Type 0 where
  pub told : Told
  pub result : List ℕ
  pub rows : List ℕ

-- a task with a message, a result buffer and a table, of which it leaves what it does not use as it came
abbrev pub served : Task → List ℕ → List ℕ → List ℕ → Whole Stated → Served
served T.Inspect ms before table w = record { told = told_case (inspected_of w); result = before; rows = table }
served T.Judge ms before table w = let x = J.with_case ms before w in record { told = told_of x.verdict; result = x.result; rows = table }
served T.Breaches ms before table w = let x = L.list_case ms before w in record { told = told_list x.answer; result = x.list; rows = table }
served T.WriteCase ms before table w = let x = W.put_case before w in record { told = told_writing x.answer; result = x.result; rows = table }
served T.WritePlan ms before table w = let x = W.with_case ms before w in record { told = told_writing x.answer; result = x.result; rows = table }
served T.Copy ms before table w = let x = K.with_case ms before w in record { told = told_copy x.answer; result = x.result; rows = table }
served T.ReadCompletion ms before table w = let x = R.lent_case true ms table w in record { told = told_reading x.answer; result = before; rows = x.table }
served T.ReadMarket ms before table w = let x = R.lent_case false ms table w in record { told = told_reading x.answer; result = before; rows = x.table }
served T.Mend ms before table w = record { told = told_mending (M.mend_case ms w); result = before; rows = table }
served T.Batch ms before table w = let x = B.with_case ms before table w in record { told = told_stack x.answer; result = x.result; rows = x.table }
