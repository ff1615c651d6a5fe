-- The loop's invariant: the sums are those of the devices below i.
use Rattle.zone_totals.specs.Sums.{SumsSo}
use Rattle.zone_totals.proofs.zone_sums.Given as goal

abbrev pub invariant-loop-i : goal.invariant-loop-i
invariant-loop-i l = SumsSo l.devices l.settings l.powers l.m l.t l.z l.i l.s
