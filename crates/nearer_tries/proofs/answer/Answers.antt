-- By interval and device from 1.
use mathlib.Core.Path.{refl}
use Rattle.nearer_tries.proofs.answer.Goals as goal

pub returns-in-Some : goal.returns-in-Some
returns-in-Some c = rw c.in-Some.is refl
