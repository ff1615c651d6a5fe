-- Each bar from its two sums and the flow.
use Rattle.mismatches.specs.Sides.{mismatches-made}
use Rattle.mismatches.proofs.mismatches.Goals as goal

pub returns : goal.returns
returns c = mismatches-made _ _ _ _ c.bar_sides-s.ensures c.flow_at-flow.ensures c.apart_with-first.ensures c.apart_with-second.ensures
