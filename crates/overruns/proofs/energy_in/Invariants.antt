-- The loop's invariant: the energy is that of the intervals below t.
use Rattle.overruns.specs.Energies.{Spent}
use Rattle.overruns.proofs.energy_in.Given as goal

abbrev pub invariant-loop-t : goal.invariant-loop-t
invariant-loop-t l = Spent l.w l.starts l.powers l.t l.energy.0
