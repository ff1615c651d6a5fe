-- Written where it fits, else 7.
use Rattle.rewrites.specs.Answers.{answer-short, answer-written}
use Rattle.rewrites.proofs.answer.Goals as goal

pub returns-then-room-needed : goal.returns-then-room-needed
returns-then-room-needed c = answer-short c.if-room-needed.true

pub returns : goal.returns
returns c = answer-written c.if-room-needed.false
