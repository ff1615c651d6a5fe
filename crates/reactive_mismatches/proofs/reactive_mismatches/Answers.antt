-- Nothing where no device has a q, else what the two sides of each bar are apart.
use Rattle.reactive_mismatches.specs.Sides.{none_apart, mismatches-made}
use Rattle.reactive_mismatches.proofs.reactive_mismatches.Goals as goal

pub returns-then-none_reactive : goal.returns-then-none_reactive
returns-then-none_reactive c = none_apart _ _ _ _ _ (c.none_reactive.ensures c.if-none_reactive.true)

pub returns : goal.returns
returns c = mismatches-made _ _ _ _ c.bar_sides-s.ensures c.apart-first.ensures c.apart-second.ensures
