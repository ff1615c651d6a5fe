-- The whole case is copied.
use Rattle.writing.specs.CaseSplices.{case_splice}
use Rattle.case_copier.proofs.renew_case.Given as goal

abbrev pub ghost-renew : goal.ghost-renew
ghost-renew a = (case_splice a.step.1, a.step.0.now)
