-- The loop's invariant: i of the zones have been read, and the next one's minima begin at a.
use Prim.Native.Nat.{◌-◌}
use Rattle.model.specs.ByEdition as B
use Rattle.zone_reader.specs.Zones.{zone_pair}
use Rattle.zone_table.proofs.PartSteps.{Parting}
use Rattle.zone_table.proofs.read_zones.Given as goal

abbrev pub invariant-loop-i : goal.invariant-loop-i
invariant-loop-i l = Parting (B.zone l.edition) zone_pair l.s l.n l.m l.initial.q l.initial.zones l.initial.minima l.i l.a l.zones l.minima l.q
