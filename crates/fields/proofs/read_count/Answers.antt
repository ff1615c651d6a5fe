use Rattle.layouts.specs.Layout as L
use Rattle.fields.proofs.read_count.Goals as goal

pub returns : goal.returns
unfolding L.nat
returns c = c.ranged.ensures
