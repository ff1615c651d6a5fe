-- The two bounds, one after the other.
use Rattle.power_spans.specs.Bounds.{next-done}
use Rattle.power_spans.proofs.within_next.Goals as goal

pub returns : goal.returns
returns c =
    let a = c.args in
    next-done a.span a.d a.s a.w c.rise_limit-rise.ensures.0 c.fall_limit-fall.ensures.0 a.a c.from-power.ensures c.at_least-first.ensures c.at_most.ensures
