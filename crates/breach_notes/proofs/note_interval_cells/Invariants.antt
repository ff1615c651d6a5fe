-- The loop's invariant: the breaches of the devices that are left are still to be noted.
use lib.ListN.{length}
use Rattle.model.specs.Breaches.{cell_breaches}
use Rattle.records.specs.Views.{system_in, plan_in}
use Rattle.breach_entries.specs.Noted.{GatherLeft}
use Rattle.breach_notes.proofs.note_interval_cells.Given as goal

abbrev pub invariant-loop-i : goal.invariant-loop-i
invariant-loop-i l =
    GatherLeft (cell_breaches (system_in l.halves l.zones l.minima l.devices l.cells) (plan_in (length l.devices) (length l.halves) l.settings) l.t) (length l.devices) l.k l.initial.list l.i l.n l.list
