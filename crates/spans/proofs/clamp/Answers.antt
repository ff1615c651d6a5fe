use Rattle.spans.specs.Spans.{clamped}
use Rattle.spans.proofs.clamp.Goals as goal

pub returns : goal.returns
unfolding clamped
returns c = c.clamp.ensures
