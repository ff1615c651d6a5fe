-- The loop's invariant: the zones below z are written and charged.
use Rattle.interval_completions.specs.Advances.{ZonesAdvance}
use Rattle.interval_completions.proofs.complete_zones.Given as goal

abbrev pub invariant-loop-z : goal.invariant-loop-z
invariant-loop-z l =
    ZonesAdvance l.front l.halves l.zones l.minima l.devices l.cells l.settings l.t l.z l.initial.buf l.buf (record { money = l.initial.money; pen = l.initial.pen }) (record { money = l.money; pen = l.pen })
