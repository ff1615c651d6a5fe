-- The loop's invariant: the intervals that are left give what all give.
use lib.ListN.{length}
use Rattle.records.specs.Views.{system_in, plan_in}
use Rattle.breaches.specs.Day.{IntervalsLeft}
use Rattle.breaches.proofs.day_rules.Given as goal

abbrev pub invariant-loop-t : goal.invariant-loop-t
invariant-loop-t l =
    IntervalsLeft (system_in l.halves l.zones l.minima l.devices l.cells) (plan_in (length l.devices) (length l.halves) l.settings) l.t
