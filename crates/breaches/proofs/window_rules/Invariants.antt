-- The loop's invariant: the devices that are left give what all give.
use lib.ListN.{length}
use Rattle.records.specs.Views.{system_in, plan_in}
use Rattle.breaches.specs.Day.{WindowsLeft}
use Rattle.breaches.proofs.window_rules.Given as goal

abbrev pub invariant-loop-i : goal.invariant-loop-i
invariant-loop-i l =
    WindowsLeft (system_in l.halves l.zones l.minima l.devices l.cells) (plan_in (length l.devices) (length l.halves) l.settings) l.i
