-- The line tells the error's number.
use Rattle.std.proofs.Common.{ap, subst, ◌∙◌}
use Rattle.wording.specs.Text.{failure_text}
use Rattle.runner.specs.Failures.{WritesFront}
use Rattle.runner.proofs.Bytes.{written, front-of}
use Rattle.runner.proofs.told.Goals as goal

pub returns-in-Err-clause-err : goal.returns-in-Err-clause-err
returns-in-Err-clause-err g c =
    subst (WritesFront _ _) (written c.put_failure-bytes.ensures ∙ ap failure_text c.number.ensures.number) (front-of _ _ _ c.tell.result c.tell.ensures.ok c.tell.ensures.err)
