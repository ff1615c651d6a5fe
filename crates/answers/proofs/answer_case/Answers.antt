-- The case is read, and its line is that of its reading; plans may follow one that passed.
use Rattle.answers.specs.Steps.{case-goes, case-ends}
use Rattle.answers.proofs.answer_case.Goals as goal

pub returns-then-line : goal.returns-then-line
returns-then-line c = case-goes _ c.message_at-message.ensures _ _ _ _ _ _ c.read_case-read.ensures c.case_line-line.ensures c.if-line.true c.ok-next.ensures.value

pub returns-else-line : goal.returns-else-line
returns-else-line c = case-ends _ c.message_at-message.ensures _ _ _ _ _ _ c.read_case-read.ensures c.case_line-line.ensures c.if-line.false
