-- The two bounds, one after the other.
use mathlib.Core.Path.{◌∙◌}
use Rattle.power_spans.specs.Bounds.{ramps-done}
use Rattle.power_spans.proofs.within_ramps.Goals as goal

pub returns : goal.returns
returns c =
    let a = c.args in
    ramps-done a.span a.d a.s a.w c.rise_limit-rise.ensures.0 c.fall_limit-fall.ensures.0 (c.from-a.ensures ∙ c.less-beside.ensures) c.from-previous.ensures
    c.at_most-first.ensures c.at_least.ensures
