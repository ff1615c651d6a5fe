-- The loop's invariant: the overruns of the windows below w are written and charged.
use Rattle.overrun_completions.specs.Advances.{FirstWindowsAdvance}
use Rattle.overrun_completions.proofs.complete_windows.Given as goal

abbrev pub invariant-loop-w : goal.invariant-loop-w
invariant-loop-w l =
    FirstWindowsAdvance l.front l.halves l.zones l.minima l.devices l.cells l.settings l.i l.w l.initial.buf l.buf (record { money = l.initial.money; pen = l.initial.pen }) (record { money = l.money; pen = l.pen })
