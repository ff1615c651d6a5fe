-- By the verdict's cases.
use Rattle.stack_turns.proofs.bytes_written.Goals as goal

pub returns-in-Accepted : goal.returns-in-Accepted
returns-in-Accepted c = rw c.in-Accepted.is c.completion_bytes.ensures
