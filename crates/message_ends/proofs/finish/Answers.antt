use Rattle.message_ends.proofs.Steps.{ends-tail, ends-clash, ends-well}
use Rattle.message_ends.proofs.finish.Goals as goal

pub returns-in-At : goal.returns-in-At
returns-in-At c = search ends-tail

pub returns-in-At-clash : goal.returns-in-At-clash
returns-in-At-clash c = search ends-clash

pub returns-in-Clear-clash : goal.returns-in-Clear-clash
returns-in-Clear-clash c = search ends-well
