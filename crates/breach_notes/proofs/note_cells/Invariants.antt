-- The loop's invariant: the breaches of the intervals that are left are still to be noted.
use lib.ListN.{length}
use Rattle.records.specs.Views.{system_in, plan_in}
use Rattle.failing_rules.specs.Day.{interval_breaches}
use Rattle.breach_entries.specs.Noted.{GatherLeft}
use Rattle.breach_notes.proofs.note_cells.Given as goal

abbrev pub invariant-loop-t : goal.invariant-loop-t
invariant-loop-t l =
    GatherLeft (interval_breaches (system_in l.halves l.zones l.minima l.devices l.cells) (plan_in (length l.devices) (length l.halves) l.settings)) (length l.halves) l.k l.initial.list l.t l.n l.list
