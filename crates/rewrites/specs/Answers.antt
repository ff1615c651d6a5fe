-- "then 7": so many bytes against the buffer's.
use Rattle.std.specs.Prelude.{◌≡◌, refl, ℕ, ◌≤◌, ◌<◌}
use Rattle.std.proofs.Common.{le-leb}
use Rattle.std.proofs.lemmas.Bool.{lt-leb}
use Rattle.layouts.specs.declared.Fault.TheVariants.{TooShort}
use Rattle.model.specs.declared.Subject.TheVariants as S
use Rattle.writing.specs.declared.Writing.TheVariants.{Written, Refused}
use Rattle.writing.specs.Anew.{writing}

pub answer-short : {needed room : ℕ} → room < needed → Refused S.Result (TooShort needed) ≡ writing needed room
unfolding writing
answer-short {needed} {room} h = rw (lt-leb needed room h) refl

pub answer-written : {needed room : ℕ} → needed ≤ room → Written needed ≡ writing needed room
unfolding writing
answer-written {needed} {room} h = rw (le-leb needed room h) refl
