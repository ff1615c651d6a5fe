-- The answers to a frame, by the splitter's cases.
use Rattle.std.specs.Prelude.{Result, Ok, Err, None, Some, IfSome, ◌≡◌, refl, Bool, true, false, List, [], ◌∷◌, ℕ, ◌≤◌, ◌<◌, length}
use Rattle.std.specs.Result.{result_ok}
use Rattle.std.specs.declared.option.Option.{Option}
use Rattle.std.proofs.Common.{sym, ap, subst, ◌∙◌, arith}
use Rattle.layouts.specs.Faults.{number_of}
use Rattle.layouts.specs.Framing.{part, message_at}
use Rattle.layouts.specs.declared.Fault.{Fault}
use Rattle.layouts.specs.declared.Framed.{Framed}
use Rattle.layouts.specs.declared.Framed.TheVariants as B
use Rattle.layouts.proofs.Frames.{lies, some}
use Rattle.model.specs.declared.Verdict.{Verdict}
use Rattle.model.specs.declared.Verdict.TheVariants.{Refused}
use Rattle.model.specs.Batch.{Line, case_line, answer, framing, plan_verdict}
use Rattle.model.specs.Case.{Plan}
use Rattle.model.specs.Editions.{batch}
use Rattle.model.specs.ByEdition.{Stated, stated_in}
use Rattle.model.specs.Forced as F
use Rattle.model.specs.Judgement.{read_plan, completion_bytes}
use Rattle.layouts.specs.Layout.{passes, fails}
use Rattle.row_places.specs.declared.Front.{Front}
use Rattle.records.specs.Viewed.{devices-are, intervals-are}
use Rattle.message_ends.specs.Ended.{ended}
use Rattle.case_reader.specs.Whole.{CasePassed, CaseRefused, CaseDone}
use Rattle.case_reader.specs.declared.CaseHead.{CaseHead}
use Rattle.case_inspection.specs.Inspection.{inspected_of}
use Rattle.plan_judgement.specs.JudgesPlan.{JudgesPlan}
use Rattle.decoded_cases.specs.Decoded.{Decoded, DecodedFirst, stated_rows, stated_first}
use Rattle.decoded_cases.specs.Cases.{decoded-first}
use Rattle.wording.specs.Text.{text, texts}
use Rattle.wording.specs.Writes.{Writes}
use Rattle.wording.proofs.Lines.{no-line, one_line}
use Rattle.frames.specs.Frames.{limit, framed}
use Rattle.case_lines.specs.Lines.{ended_lines, ended_more, WritesCase}
use Rattle.case_lines.specs.declared.CaseLine.{CaseLine}
use Rattle.answers.specs.Answers.{After, read_line, case_lines, case_after, after_of, more_of, accepts, AnswersCase, AnswersPlan}
use Rattle.answers.specs.Inspected.{inspect-passes}
use Rattle.answers.specs.Room.{result_room, completion-fits, enough}

-- ---- the case

pub never : {P : Type 0} → false ≡ true → P
never k = let z : ◌≡◌ {A = ℕ} 0 1 = cc in absurd (omega arith)

-- the case that plans may follow
abbrev ended_next : Framed → Result CaseHead Fault → Option CaseHead
ended_next B.End r = None
ended_next (B.Message from until) (Ok h) = Some h
ended_next (B.Message from until) (Err f) = None
ended_next (B.Refused f) r = None

next-goes : (x : Framed) (r : Result CaseHead Fault) → ended_more x r ≡ true → result_ok r ≡ ended_next x r
next-goes B.End r h = never h
next-goes (B.Message from until) (Ok c) h = refl
next-goes (B.Message from until) (Err f) h = never h
next-goes (B.Refused f) r h = never h

next-ends : (x : Framed) (r : Result CaseHead Fault) → ended_more x r ≡ false → None ≡ ended_next x r
next-ends B.End r h = refl
next-ends (B.Message from until) (Ok c) h = never (sym h)
next-ends (B.Message from until) (Err f) h = refl
next-ends (B.Refused f) r h = refl

-- what the splitter finds holds the message, so the case's line is that of its reading
module _ (frame : List ℕ) {m : List ℕ} (i : m ≡ message_at limit frame 0) (halves : List ℕ) (zones minima devices cells : List (List ℕ)) where
  message-is : {from until : ℕ} → framed frame ≡ B.Message from until → stated_in batch (part frame from until) ≡ stated_in batch m
  message-is t = ap (stated_in batch) (some limit frame 0 refl t ∙ sym i)

  abbrev after_next : Option CaseHead → After
  after_next n = after_of n halves zones minima devices cells

  abbrev DecodedNext : Option CaseHead → Type 0
  DecodedNext n = IfSome n (λ h. DecodedFirst h.front h.counts halves zones minima devices cells batch)

  -- a case that is refused
  module _ {f : Fault} (d : CaseRefused batch.devices batch.intervals m f) where
    read-off : {from until : ℕ} → framed frame ≡ B.Message from until → stated_in batch (part frame from until) ≡ fails f
    read-off t = message-is t ∙ sym d.is

    lines-off : (x : Framed) → framed frame ≡ x → ended_lines x (Err f) ≡ case_lines frame x
    lines-off B.End t = refl
    lines-off (B.Refused g) t = refl
    lines-off (B.Message from until) t = rw (read-off t) refl

    after-off : (x : Framed) → framed frame ≡ x → after_next (ended_next x (Err f)) ≡ case_after frame x
    after-off B.End t = refl
    after-off (B.Refused g) t = refl
    after-off (B.Message from until) t = rw (read-off t) refl

    decoded-off : (x : Framed) → DecodedNext (ended_next x (Err f))
    decoded-off B.End = tt
    decoded-off (B.Refused g) = tt
    decoded-off (B.Message from until) = tt

  -- one that passes
  module _ (c : CaseHead) (d : CasePassed batch.devices batch.intervals m halves zones minima devices cells c.front c.counts) where
    abbrev held : Stated
    held = stated_first c.front c.counts halves zones minima devices cells

    read-on : {from until : ℕ} → framed frame ≡ B.Message from until → stated_in batch (part frame from until) ≡ passes held
    read-on t = message-is t ∙ sym d.is

    -- the counts are the decoded case's
    counts-are : case_line 0 c.counts.devices c.counts.intervals c.counts.zones ≡ read_line (passes held)
    counts-are = let j = inspect-passes batch (omega arith) (omega arith) m halves zones minima devices cells c.front c.counts d ∙ ap inspected_of (sym d.is) in cc

    lines-on : (x : Framed) → framed frame ≡ x → ended_lines x (Ok c) ≡ case_lines frame x
    lines-on B.End t = refl
    lines-on (B.Refused g) t = refl
    lines-on (B.Message from until) t = rw (read-on t) (ap (λ (l : Line). l ∷ []) counts-are)

    after-on : (x : Framed) → framed frame ≡ x → after_next (ended_next x (Ok c)) ≡ case_after frame x
    after-on B.End t = refl
    after-on (B.Refused g) t = refl
    after-on (B.Message from until) t = rw (read-on t) refl

    decoded-on : (x : Framed) → DecodedNext (ended_next x (Ok c))
    decoded-on B.End = tt
    decoded-on (B.Refused g) = tt
    decoded-on (B.Message from until) = decoded-first batch (omega arith) (omega arith) m halves zones minima devices cells c.front c.counts d

  pub case-answered : (read : Result CaseHead Fault) → CaseDone batch.devices batch.intervals m halves zones minima devices cells read → {before after : List ℕ} {l : CaseLine}
      → WritesCase (framed frame) read before after l → {next : Option CaseHead} → next ≡ ended_next (framed frame) read
      → AnswersCase frame halves zones minima devices cells before after (record { bytes = l.bytes; next = next })
  case-answered (Ok c) d {before} {after} {l} w e = record {
    text = subst (λ (ls : List Line). Writes (texts ls) before after l.bytes) (lines-on c d (framed frame) refl) w.text;
    next = ap after_next e ∙ after-on c d (framed frame) refl;
    decoded = subst DecodedNext (sym e) (decoded-on c d (framed frame));
  }
  case-answered (Err f) d {before} {after} {l} w e = record {
    text = subst (λ (ls : List Line). Writes (texts ls) before after l.bytes) (lines-off d (framed frame) refl) w.text;
    next = ap after_next e ∙ after-off d (framed frame) refl;
    decoded = subst DecodedNext (sym e) (decoded-off d (framed frame));
  }

  module _ (read : Result CaseHead Fault) (d : CaseDone batch.devices batch.intervals m halves zones minima devices cells read) {before after : List ℕ} {l : CaseLine}
      (w : WritesCase (framed frame) read before after l) where
    pub case-goes : l.more ≡ true → {next : Option CaseHead} → next ≡ result_ok read → AnswersCase frame halves zones minima devices cells before after (record { bytes = l.bytes; next = next })
    case-goes h e = case-answered read d w (e ∙ next-goes (framed frame) read (sym w.more ∙ h))

    pub case-ends : l.more ≡ false → AnswersCase frame halves zones minima devices cells before after (record { bytes = l.bytes; next = None })
    case-ends h = case-answered read d w (next-ends (framed frame) read (sym w.more ∙ h))

-- ---- a plan

module _ (c : Stated) (index : ℕ) (frame buffer before : List ℕ) {x : Framed} (e : x ≡ framed frame) where
  pub plan-end : x ≡ B.End → AnswersPlan c index frame buffer buffer before before (record { bytes = 0; more = false; accepted = false })
  plan-end t =
      let f : framed frame ≡ B.End = sym e ∙ t in
      record { text = rw f (no-line before); more = rw f refl; accepted = rw f refl; result = rw f refl }

  pub plan-framing : {f : Fault} {after : List ℕ} {n : ℕ} → x ≡ B.Refused f → Writes (text (framing (number_of f))) before after n
      → AnswersPlan c index frame buffer buffer before after (record { bytes = n; more = false; accepted = false })
  plan-framing {f} t w =
      let g : framed frame ≡ B.Refused f = sym e ∙ t in
      record { text = rw g (one_line refl w); more = rw g refl; accepted = rw g refl; result = rw g refl }

module _ {front : Front} {halves : List ℕ} {zones minima devices cells : List (List ℕ)} (d : Decoded front halves zones minima devices cells)
    (few : length devices ≤ batch.devices) (short : length halves ≤ batch.intervals) (index : ℕ) (frame buffer before : List ℕ) {x : Framed} (e : x ≡ framed frame) where
  abbrev C : Stated
  C = stated_rows front halves zones minima devices cells

  fits-here : result_room ≤ length buffer → (p : Plan) → length (completion_bytes C p) ≤ length buffer
  fits-here room p =
      let n : F.devices C.case.system ≤ batch.devices = omega (arith, devices-are halves zones minima devices cells) in
      let m : F.intervals C.case.system ≤ batch.intervals = omega (arith, intervals-are halves zones minima devices cells) in
      omega (arith, completion-fits C d.rows.range.system n m p, room)

  pub plan-judged : {from until : ℕ} {m left after : List ℕ} {v : Verdict} {n : ℕ} {a : Bool} → result_room ≤ length buffer → x ≡ B.Message from until
      → m ≡ message_at limit frame 0 → JudgesPlan front halves zones minima devices cells m buffer left v → Writes (text (answer index v)) before after n → a ≡ accepts v
      → AnswersPlan C index frame buffer left before after (record { bytes = n; more = true; accepted = a })
  plan-judged {from} {until} {m} {v = v} room t i j w h =
      let k : framed frame ≡ B.Message from until = sym e ∙ t in
      let p : m ≡ part frame from until = i ∙ sym (some limit frame 0 e t) in
      let g : v ≡ plan_verdict C (read_plan C (part frame from until)) = j.verdict ∙ rw p (enough C buffer (fits-here room) (read_plan C (part frame from until))) in
      record { text = rw k (one_line (ap (answer index) g) w); more = rw k refl; accepted = rw k (h ∙ ap accepts g); result = rw k (j.result ∙ rw p refl) }

-- a frame behind which the batch goes on has a byte
pub more_bytes : (frame : List ℕ) → more_of (framed frame) ≡ true → 0 < length frame
more_bytes frame h = go (framed frame) refl h
  where
    go : (x : Framed) → x ≡ framed frame → more_of x ≡ true → 0 < length frame
    go B.End e k = never k
    go (B.Message from until) e k = let l = lies limit frame 0 e refl in omega (arith, l.within, l.behind, l.ordered)
    go (B.Refused f) e k = never k
