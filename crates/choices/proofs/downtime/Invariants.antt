-- The invariant: no interval from e to t is on.
use Rattle.row_places.specs.Figures.{device_at}
use Rattle.choices.specs.Rests.{Off}
use Rattle.choices.proofs.downtime.Given as goal

abbrev pub invariant-loop-e : goal.invariant-loop-e
invariant-loop-e l = Off (device_at l.devices l.i) l.settings l.starts l.t l.e
