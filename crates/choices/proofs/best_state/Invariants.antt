-- The invariant: the best of all states is the best from the choice so far among the rest.
use Rattle.row_places.specs.Figures.{device_at}
use Rattle.choices.specs.States.{Best}
use Rattle.choices.proofs.best_state.Given as goal

abbrev pub invariant-loop-k : goal.invariant-loop-k
invariant-loop-k l = Best (device_at l.devices l.i) l.downtime l.k l.b
