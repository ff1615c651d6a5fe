use Rattle.layouts.specs.Layout as L
use Rattle.fields.proofs.read_kind.Goals as goal

pub returns : goal.returns
unfolding L.nat
returns c = c.ranged.ensures
