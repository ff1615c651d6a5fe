-- What the batch program answers to a frame: its lines, and how the batch goes on.
use Rattle.std.specs.Prelude.{◌≡◌, Bool, true, false, List, [], ◌∷◌, ℕ, None, Some, IfSome}
use Rattle.std.specs.declared.option.Option.{Option}
use Rattle.layouts.specs.Faults.{number_of}
use Rattle.layouts.specs.Framing.{part}
use Rattle.layouts.specs.declared.Framed.{Framed}
use Rattle.layouts.specs.declared.Framed.TheVariants as B
use Rattle.model.specs.declared.Subject.TheVariants as S
use Rattle.model.specs.declared.Verdict.{Verdict}
use Rattle.model.specs.declared.Verdict.TheVariants.{Accepted, Broken, Refused}
use Rattle.model.specs.Batch.{Line, case_line, answer, framing, plan_verdict}
use Rattle.model.specs.Editions.{batch}
use Rattle.model.specs.ByEdition.{Stated, stated_in}
use Rattle.model.specs.Forced.{intervals, devices, zones}
use Rattle.model.specs.Judgement.{read_plan, with_plan}
use Rattle.layouts.specs.Layout.{Whole, passes, fails}
use Rattle.case_reader.specs.declared.CaseHead.{CaseHead}
use Rattle.decoded_cases.specs.Decoded.{stated_first, DecodedFirst}
use Rattle.wording.specs.Text.{texts}
use Rattle.wording.specs.Writes.{Writes}
use Rattle.frames.specs.Frames.{framed}
use Rattle.answers.specs.declared.CaseAnswer.{CaseAnswer}
use Rattle.answers.specs.declared.PlanAnswer.{PlanAnswer}

-- ---- the first frame: "case first"

-- "A refused case ends the run after its line"
pub data After : Type 0 where
  over : After
  plans : Stated → After

abbrev pub read_line : Whole Stated → Line
read_line (passes x) = let q = x.case.system in case_line 0 (devices q) (intervals q) (zones q)
read_line (fails f) = answer 0 (Refused S.Case f)

abbrev pub read_after : Whole Stated → After
read_after (passes x) = plans x
read_after (fails f) = over

-- "A splitter refusal prints `framing` and its number, and ends it. An empty batch prints nothing."
abbrev pub case_lines : List ℕ → Framed → List Line
case_lines frame B.End = []
case_lines frame (B.Message from until) = read_line (stated_in batch (part frame from until)) ∷ []
case_lines frame (B.Refused f) = framing (number_of f) ∷ []

abbrev pub case_after : List ℕ → Framed → After
case_after frame B.End = over
case_after frame (B.Message from until) = read_after (stated_in batch (part frame from until))
case_after frame (B.Refused f) = over

-- ---- each further frame: a plan

abbrev pub plan_answers : Stated → ℕ → List ℕ → Framed → List Line
plan_answers x index frame B.End = []
plan_answers x index frame (B.Message from until) = answer index (plan_verdict x (read_plan x (part frame from until))) ∷ []
plan_answers x index frame (B.Refused f) = framing (number_of f) ∷ []

-- a batch goes on behind a plan
abbrev pub more_of : Framed → Bool
more_of B.End = false
more_of (B.Message from until) = true
more_of (B.Refused f) = false

abbrev pub accepts : Verdict → Bool
accepts (Accepted z) = true
accepts (Broken b) = false
accepts (Refused s f) = false

abbrev pub accepted_of : Stated → List ℕ → Framed → Bool
accepted_of x frame B.End = false
accepted_of x frame (B.Message from until) = accepts (plan_verdict x (read_plan x (part frame from until)))
accepted_of x frame (B.Refused f) = false

-- the result buffer afterwards, which holds the completion of a plan that was accepted
abbrev pub result_of : Stated → List ℕ → List ℕ → Framed → List ℕ
result_of x frame buffer B.End = buffer
result_of x frame buffer (B.Message from until) = (with_plan x buffer (read_plan x (part frame from until))).result
result_of x frame buffer (B.Refused f) = buffer

-- ---- what the functions promise; `before` and `after` are the buffer of the line, `buffer` and `left` that of the result

-- plans follow for the case in the first rows of the tables, where its front and counts are given
abbrev pub after_of : Option CaseHead → (halves : List ℕ) (zones minima devices cells : List (List ℕ)) → After
after_of None halves zones minima devices cells = over
after_of (Some h) halves zones minima devices cells = plans (stated_first h.front h.counts halves zones minima devices cells)

-- the decoded case is left in the first rows of the tables
pub record AnswersCase (frame halves : List ℕ) (zones minima devices cells : List (List ℕ)) (before after : List ℕ) (r : CaseAnswer) : Type 0 where
  pub text : Writes (texts (case_lines frame (framed frame))) before after r.bytes
  pub next : after_of r.next halves zones minima devices cells ≡ case_after frame (framed frame)
  pub decoded : IfSome r.next (λ h. DecodedFirst h.front h.counts halves zones minima devices cells batch)

pub record AnswersPlan (x : Stated) (index : ℕ) (frame buffer left before after : List ℕ) (r : PlanAnswer) : Type 0 where
  pub text : Writes (texts (plan_answers x index frame (framed frame))) before after r.bytes
  pub more : r.more ≡ more_of (framed frame)
  pub accepted : r.accepted ≡ accepted_of x frame (framed frame)
  pub result : left ≡ result_of x frame buffer (framed frame)
