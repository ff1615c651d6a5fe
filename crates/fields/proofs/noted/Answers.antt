use Rattle.fields.proofs.Steps.{noted-at, noted-clear, noted-none}
use Rattle.fields.proofs.noted.Goals as goal

pub returns-then-holds : goal.returns-then-holds
returns-then-holds c = search noted-none

pub returns-in-At : goal.returns-in-At
returns-in-At c = search noted-at

pub returns-in-Clear : goal.returns-in-Clear
returns-in-Clear c = search noted-clear
