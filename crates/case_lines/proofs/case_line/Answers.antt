-- By what the splitter finds, and by what reading the case gave.
use Rattle.case_lines.specs.Steps.{line-end, line-framing, line-fails, line-passes}
use Rattle.case_lines.proofs.case_line.Goals as goal

pub returns-in-End : goal.returns-in-End
returns-in-End c = line-end c.frame_at.ensures.is _ _ c.in-End.is

pub returns-in-Refused : goal.returns-in-Refused
returns-in-Refused c =
    let at : _ = c in
    line-framing at.frame_at.ensures.is _ _ at.in-Refused.is c.put_framing-bytes.ensures

pub returns-in-Err : goal.returns-in-Err
returns-in-Err c =
    let at : _ = c in
    line-fails at.frame_at.ensures.is _ _ at.in-Message.is at.in-Err.is c.put_answer-bytes.ensures

pub returns-in-Ok : goal.returns-in-Ok
returns-in-Ok c =
    let at : _ = c in
    line-passes at.frame_at.ensures.is _ _ at.in-Message.is at.in-Ok.is c.put_case-bytes.ensures
