-- The line to a batch's first frame, by what the splitter finds and by what reading the case gave, and whether plans may follow.
use Rattle.std.specs.Prelude.{Result, Ok, Err, ◌≡◌, Bool, true, false, List, [], ◌∷◌, ℕ}
use Rattle.layouts.specs.Faults.{number_of}
use Rattle.layouts.specs.declared.Framed.{Framed}
use Rattle.layouts.specs.declared.Framed.TheVariants as B
use Rattle.model.specs.declared.Subject.TheVariants as S
use Rattle.model.specs.declared.Verdict.TheVariants.{Refused}
use Rattle.model.specs.Batch.{Line, case_line, answer, framing}
use Rattle.layouts.specs.declared.Fault.{Fault}
use Rattle.case_reader.specs.declared.CaseHead.{CaseHead}
use Rattle.wording.specs.Text.{texts}
use Rattle.wording.specs.Writes.{Writes}
use Rattle.case_lines.specs.declared.CaseLine.{CaseLine}

abbrev pub ended_lines : Framed → Result CaseHead Fault → List Line
ended_lines B.End r = []
ended_lines (B.Message from until) (Ok h) = case_line 0 h.counts.devices h.counts.intervals h.counts.zones ∷ []
ended_lines (B.Message from until) (Err f) = answer 0 (Refused S.Case f) ∷ []
ended_lines (B.Refused f) r = framing (number_of f) ∷ []

abbrev pub ended_more : Framed → Result CaseHead Fault → Bool
ended_more B.End r = false
ended_more (B.Message from until) (Ok h) = true
ended_more (B.Message from until) (Err f) = false
ended_more (B.Refused f) r = false

pub record WritesCase (x : Framed) (read : Result CaseHead Fault) (before after : List ℕ) (r : CaseLine) : Type 0 where
  pub text : Writes (texts (ended_lines x read)) before after r.bytes
  pub more : r.more ≡ ended_more x read
