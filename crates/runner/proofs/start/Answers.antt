-- Where telling the answer fails, a front of it is told.
use Rattle.std.proofs.Common.{ℕ, List}
use Rattle.std.proofs.lemmas.Result.{err_from_is_err_and}
use Rattle.wording.specs.Text.{texts}
use Rattle.frames.specs.Frames.{framed}
use Rattle.answers.specs.Answers.{case_lines}
use Rattle.runner.proofs.Bytes.{written, fails-late}
use Rattle.runner.proofs.start.Goals as goal

pub returns-in_err-tell-clause-failed : goal.returns-in_err-tell-clause-failed
returns-in_err-tell-clause-failed g c =
    let p = err_from_is_err_and c.from_residual-in_err-tell.result c.from_residual-in_err-tell.ensures.1 in
    let f = rw (← c.in_ok-n.ensures.same) at c.read_frame.ensures.frame in
    rw p.1 (fails-late _ _ _ _ _ p.0 _ _ (λ (f : List ℕ). texts (case_lines f (framed f)))
    f.next c.in_ok-n.ensures.ok c.in_err-tell.ensures.err (written c.answer_case-answer.ensures.text))
