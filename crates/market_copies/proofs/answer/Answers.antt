-- Copied where it fits, else 7.
use Rattle.market_copies.specs.Steps.{answer-short, answer-copied}
use Rattle.market_copies.proofs.answer.Goals as goal

pub returns-then-room-needed : goal.returns-then-room-needed
returns-then-room-needed c = answer-short c.if-room-needed.true

pub returns : goal.returns
returns c = answer-copied c.if-room-needed.false
