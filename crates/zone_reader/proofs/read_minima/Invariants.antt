-- The loop's invariant: the minima of k intervals have been read.
use Prim.Native.Nat.{◌-◌}
use lib.ListN.{length}
use Rattle.zone_reader.proofs.ZoneSteps.{Minding}
use Rattle.zone_reader.proofs.read_minima.Given as goal

abbrev pub invariant-loop-k : goal.invariant-loop-k
invariant-loop-k l = Minding l.edition l.s (length l.initial.minima) l.initial.q l.k l.minima l.q
