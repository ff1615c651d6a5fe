-- By the test.
use Rattle.std.proofs.Common.{ap, not}
use Rattle.std.specs.Prelude.{Option, Some, None}
use Rattle.breaches.specs.Parts.{link-held, link-broken}
use Rattle.breaches.proofs.link_check.Goals as goal

pub returns-then-not-link_kept : goal.returns-then-not-link_kept
returns-then-not-link_kept c = link-broken _ _ _ c.link_kept.ensures (ap not c.if-not-link_kept.true) (ap Some c.link_breach.ensures)

pub returns : goal.returns
returns c = link-held _ _ _ c.link_kept.ensures (ap not c.if-not-link_kept.false)
