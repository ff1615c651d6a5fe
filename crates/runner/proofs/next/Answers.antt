-- Where telling the answer fails, a front of it is told; behind a frame that holds a message fewer bytes are left.
use Rattle.std.proofs.Common.{◌≡◌, ℕ, ◌-◌, ◌≤◌, ◌<◌, true, List, length, sym, ◌∙◌, arith, length-take, take}
use Rattle.std.specs.Prelude.{Bool}
use Rattle.std.proofs.lemmas.Result.{err_from_is_err_and}
use Rattle.wording.specs.Text.{texts}
use Rattle.decoded_cases.specs.Decoded.{stated_rows}
use Rattle.frames.specs.Frames.{framed}
use Rattle.answers.specs.Answers.{more_of, plan_answers}
use Rattle.answers.specs.Steps.{more_bytes}
use Rattle.runner.proofs.Bytes.{written, fails-late}
use Rattle.runner.proofs.next.Goals as goal

progress : (frame : List ℕ) {m : Bool} {n left : ℕ} → m ≡ more_of (framed frame) → length frame ≤ n → n ≤ left → m ≡ true → left - n < left
progress frame e h l t = omega (arith, more_bytes frame (sym e ∙ t))

pub returns-in_err-tell-clause-failed : goal.returns-in_err-tell-clause-failed
returns-in_err-tell-clause-failed g c =
    let p = err_from_is_err_and c.from_residual-in_err-tell.result c.from_residual-in_err-tell.ensures.1 in
    let f = rw (← c.in_ok-n.ensures.same) at c.read_frame.ensures.frame in
    let a = c.args in
    let x = stated_rows a.front a.halves.now a.zones.now a.minima.now a.devices.now a.cells.now in
    rw p.1 (fails-late _ _ _ _ _ p.0 _ _ (λ (f : List ℕ). texts (plan_answers x a.index f (framed f)))
    f.next c.in_ok-n.ensures.ok c.in_err-tell.ensures.err (written c.answer_plan-answer.ensures.text))

pub returns-clause-rest : goal.returns-clause-rest
returns-clause-rest g c =
    let w = rw (← c.in_ok-n.ensures.same) at c.read_frame.ensures.within in
    (omega arith, progress _ c.answer_plan-answer.ensures.more (simp length-take (omega arith)) w.1)
