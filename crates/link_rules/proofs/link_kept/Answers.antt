-- The flow and the limit are those of the rows.
use mathlib.Core.Path.{refl, ◌∙◌}
use Rattle.link_rules.specs.Link.{link_kept}
use Rattle.link_rules.proofs.link_kept.Goals as goal

pub returns : goal.returns
unfolding link_kept
returns c = c.flow_within.ensures ∙ rw (c.flow_at-flow.ensures, c.limit_at-limit.ensures) refl
