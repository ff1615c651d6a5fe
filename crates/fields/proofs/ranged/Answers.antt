-- One law for each of the field's answer and its two tests; the search joins them.
use Rattle.bits.specs.Pick.{at_most, not-at-most}
use Rattle.layouts.specs.Layout as L
use Rattle.fields.proofs.Steps.{raw-on, raw-off}
use Rattle.fields.proofs.ranged.Goals as goal

pub returns-in_default : goal.returns-in_default
unfolding L.nat
returns-in_default c = search (raw-on, raw-off, at_most, not-at-most)

pub returns-then-v-low : goal.returns-then-v-low
unfolding L.nat
returns-then-v-low c = search (raw-on, raw-off, at_most, not-at-most)

pub returns-then-high-v : goal.returns-then-high-v
unfolding L.nat
returns-then-high-v c = search (raw-on, raw-off, at_most, not-at-most)

pub returns : goal.returns
unfolding L.nat
returns c = search (raw-on, raw-off, at_most, not-at-most)
