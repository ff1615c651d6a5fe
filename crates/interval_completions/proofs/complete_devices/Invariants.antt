-- The loop's invariant: the devices below i are written and charged.
use Rattle.interval_completions.specs.Advances.{DevicesAdvance}
use Rattle.interval_completions.proofs.complete_devices.Given as goal

abbrev pub invariant-loop-i : goal.invariant-loop-i
invariant-loop-i l =
    DevicesAdvance l.fn.front l.halves l.zones l.minima l.devices l.cells l.settings l.t l.i l.initial.buf l.buf
    (record { money = l.initial.money; pen = l.initial.pen }) (record { money = l.money; pen = l.pen })
