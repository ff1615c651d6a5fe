-- The levels are those of the law.
use Rattle.reactive_tests.specs.Order.{above-line}
use Rattle.reactive_tests.proofs.above_line.Goals as goal

pub returns : goal.returns
returns c = let a : _ = c.args in
    rw (c.line_level-line.ensures.0, c.product.ensures, c.own_level-own.ensures.0)
    (above-line a.q.0 a.down.0 a.l a.n a.power.0)
