-- The loop's invariant: the devices that are left give what all give.
use lib.ListN.{length}
use Rattle.records.specs.Views.{system_in, plan_in}
use Rattle.breaches.specs.Day.{CellsLeft}
use Rattle.breaches.proofs.interval_cells.Given as goal

abbrev pub invariant-loop-i : goal.invariant-loop-i
invariant-loop-i l =
    CellsLeft (system_in l.halves l.zones l.minima l.devices l.cells) (plan_in (length l.devices) (length l.halves) l.settings) l.t l.i
