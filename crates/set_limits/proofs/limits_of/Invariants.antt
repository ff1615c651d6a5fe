-- From the last set named on: the arrays hold the bounds of those from k on.
use lib.ListN.{drop}
use Rattle.records.specs.Views.{system_in}
use Rattle.set_limits.specs.Limits.{Limited}
use Rattle.set_limits.proofs.limits_of.Given as goal

abbrev pub invariant-loop-k : goal.invariant-loop-k
invariant-loop-k l = Limited (system_in l.halves l.zones l.minima l.devices l.cells) l.t (drop l.k l.sets) (drop l.k l.powers) l.lo l.hi
