-- "Writing cases and plans": what writing a case, or a plan with its case, in the newest edition gives back, the answer and the result buffer afterwards.
use Rattle.std.specs.Prelude.{List, ◌++◌, ℕ, leb, length, drop}
use Rattle.bits.specs.Pick.{pick}
use Rattle.layouts.specs.declared.Fault.{Fault}
use Rattle.layouts.specs.declared.Fault.TheVariants.{TooShort}
use Rattle.layouts.specs.Layout.{Whole, passes, fails, bytes}
use Rattle.model.specs.declared.Subject.{Subject}
use Rattle.model.specs.declared.Subject.TheVariants as S
use Rattle.writing.specs.declared.Writing.{Writing}
use Rattle.writing.specs.declared.Writing.TheVariants.{Written, Refused}
use Rattle.model.specs.Case.{Case, System, Plan}
use Rattle.model.specs.Forced.{intervals, devices}
use Rattle.model.specs.Editions.{newest, Largest, host}
use Rattle.model.specs.ByEdition.{Stated, case_layout, plan_layout, stated_in}
use Rattle.model.specs.Judgement.{read_plan}

-- the content of a case, as a message of the newest edition: what an older edition lacks has its neutral value in the content
abbrev pub anew : Case → Stated
anew c = record { edition = newest; case = c }

-- no bit that is written depends on how large a reader's counts may be
unfoldable pub case_bytes : Case → List ℕ
case_bytes c = bytes ((case_layout host).write (anew c))

-- a plan's counts and figures
unfoldable pub rows_bytes : ℕ → ℕ → Plan → List ℕ
rows_bytes devices intervals p = bytes ((plan_layout newest devices intervals).write p)

abbrev pub plan_bytes : System → Plan → List ℕ
plan_bytes q p = rows_bytes (devices q) (intervals q) p

-- "then 7"
unfoldable pub writing : ℕ → ℕ → Writing
writing needed room = pick (leb needed room) (Written needed) (Refused S.Result (TooShort needed))

abbrev pub after : Writing → List ℕ → List ℕ → List ℕ
after (Written n) out buffer = out ++ drop (length out) buffer
after (Refused s f) out buffer = buffer

pub record Writings : Type 0 where
  pub answer : Writing
  pub result : List ℕ

-- "exactly .. bytes, the rest of the buffer unchanged"; a refusal writes nothing
unfoldable pub put : List ℕ → List ℕ → Writings
put out buffer = let r = writing (length out) (length buffer) in record { answer = r; result = after r out buffer }

abbrev pub refused_as : Subject → Fault → List ℕ → Writings
refused_as s f buffer = record { answer = Refused s f; result = buffer }

-- "It refuses what reading refuses"
abbrev pub put_case : List ℕ → Whole Stated → Writings
put_case buffer (passes x) = put (case_bytes x.case) buffer
put_case buffer (fails f) = refused_as S.Case f buffer

unfoldable pub case_anew : Largest → List ℕ → List ℕ → Writings
case_anew l cs buffer = put_case buffer (stated_in l cs)

abbrev pub put_rows : ℕ → ℕ → List ℕ → Whole Plan → Writings
put_rows devices intervals buffer (passes p) = put (rows_bytes devices intervals p) buffer
put_rows devices intervals buffer (fails f) = refused_as S.Plan f buffer

abbrev pub put_plan : Stated → List ℕ → Whole Plan → Writings
put_plan x buffer w = put_rows (devices x.case.system) (intervals x.case.system) buffer w

-- case, then plan
abbrev pub with_case : List ℕ → List ℕ → Whole Stated → Writings
with_case ps buffer (passes x) = put_plan x buffer (read_plan x ps)
with_case ps buffer (fails f) = refused_as S.Case f buffer

unfoldable pub plan_anew : Largest → List ℕ → List ℕ → List ℕ → Writings
plan_anew l cs ps buffer = with_case ps buffer (stated_in l cs)
