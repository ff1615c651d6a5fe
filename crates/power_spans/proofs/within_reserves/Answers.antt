-- The two bounds, one after the other.
use mathlib.Core.Path.{◌∙◌}
use Rattle.power_spans.specs.Bounds.{reserves-done}
use Rattle.power_spans.proofs.within_reserves.Goals as goal

pub returns : goal.returns
returns c =
    let a = c.args in
    reserves-done a.span a.d a.s a.w a.c c.while_on-top.ensures.0 c.while_on-bottom.ensures.0 (c.from.ensures ∙ c.by_side-raises.ensures.0)
    (c.from-2.ensures ∙ c.by_side-lowers.ensures.0) c.at_most-first.ensures c.at_least.ensures
