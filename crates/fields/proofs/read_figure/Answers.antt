use Rattle.layouts.specs.Layout as L
use Rattle.fields.proofs.read_figure.Goals as goal

pub returns : goal.returns
unfolding L.nat
returns c = c.ranged.ensures
