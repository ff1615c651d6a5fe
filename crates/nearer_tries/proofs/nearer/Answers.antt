-- By what was found.
use Rattle.nearer_tries.proofs.nearer.Goals as goal

pub returns-in-None : goal.returns-in-None
returns-in-None c = rw c.in-None.is c.answer.ensures

pub returns-in-None-second : goal.returns-in-None-second
returns-in-None-second c = rw (c.in-Some.is, c.in-None-second.is) c.answer-in-None-second.ensures

pub returns-in-Some-second : goal.returns-in-Some-second
returns-in-Some-second c = rw (c.in-Some.is, c.in-Some-second.is) c.better.ensures
