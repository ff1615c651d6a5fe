-- The line by its cases.
use Rattle.std.specs.Prelude.{Result, Ok, Err, ◌≡◌, refl, true, false, List, ℕ}
use Rattle.std.proofs.Common.{sym, ◌∙◌}
use Rattle.layouts.specs.Faults.{number_of}
use Rattle.layouts.specs.declared.Fault.{Fault}
use Rattle.layouts.specs.declared.Framed.{Framed}
use Rattle.layouts.specs.declared.Framed.TheVariants as B
use Rattle.model.specs.declared.Subject.TheVariants as S
use Rattle.model.specs.declared.Verdict.TheVariants.{Refused}
use Rattle.model.specs.Batch.{case_line, answer, framing}
use Rattle.case_reader.specs.declared.CaseHead.{CaseHead}
use Rattle.wording.specs.Text.{text}
use Rattle.wording.specs.Writes.{Writes}
use Rattle.wording.proofs.Lines.{no-line, one_line}
use Rattle.case_lines.specs.Lines.{WritesCase}

module _ {x y : Framed} (e : x ≡ y) (read : Result CaseHead Fault) (before : List ℕ) where
  pub line-end : x ≡ B.End → WritesCase y read before before (record { bytes = 0; more = false })
  line-end t = let f : y ≡ B.End = sym e ∙ t in record { text = rw f (no-line before); more = rw f refl }

  pub line-framing : {f : Fault} {after : List ℕ} {k : ℕ} → x ≡ B.Refused f → Writes (text (framing (number_of f))) before after k
      → WritesCase y read before after (record { bytes = k; more = false })
  line-framing {f} t w = let g : y ≡ B.Refused f = sym e ∙ t in record { text = rw g (one_line refl w); more = rw g refl }

  module _ {from until : ℕ} (t : x ≡ B.Message from until) where
    holds : y ≡ B.Message from until
    holds = sym e ∙ t

    pub line-fails : {f : Fault} {after : List ℕ} {k : ℕ} → read ≡ Err f → Writes (text (answer 0 (Refused S.Case f))) before after k
        → WritesCase y read before after (record { bytes = k; more = false })
    line-fails h w = record { text = rw (holds, h) (one_line refl w); more = rw (holds, h) refl }

    pub line-passes : {h : CaseHead} {after : List ℕ} {k : ℕ} → read ≡ Ok h → Writes (text (case_line 0 h.counts.devices h.counts.intervals h.counts.zones)) before after k
        → WritesCase y read before after (record { bytes = k; more = true })
    line-passes h w = record { text = rw (holds, h) (one_line refl w); more = rw (holds, h) refl }
