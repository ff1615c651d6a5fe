-- The two bounds, one after the other.
use mathlib.Core.Path.{◌∙◌, ap}
use Prim.Native.Nat.{◌*◌}
use Rattle.power_spans.specs.Bounds.{blocks-done}
use Rattle.power_spans.proofs.within_blocks.Goals as goal

pub returns : goal.returns
returns c =
    let a = c.args in
    blocks-done a.span a.d a.s a.w a.c (c.from-a.ensures ∙ c.less-beside.ensures) (c.while_on-least.ensures.0 ∙ ap (λ n. n * a.s.on) c.sum_of-low.ensures.0)
    (c.from.ensures ∙ c.sum_of-high.ensures.0) c.at_least-first.ensures c.at_most.ensures
