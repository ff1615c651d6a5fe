-- A list of one byte takes no entry: what is counted there is what the list holds afterwards.
use native.Mathlib.Omega.{arith}
use Rattle.breach_lists.specs.Lists.{lists-short, lists-all}
use Rattle.breach_lists.proofs.list_all.Goals as goal

pub overflow_mul-needed : goal.overflow_mul-needed
overflow_mul-needed c = omega (arith, c.note_all-n.ensures.few)

pub returns-then-list-needed : goal.returns-then-list-needed
returns-then-list-needed c = let a : _ = c.args in lists-short a.front a.halves.now a.zones.now a.minima.now
    a.devices.now a.cells.now a.settings.now c.note_all-n.ensures a.list.now (omega (arith, c.if-list-needed.true))

pub returns : goal.returns
returns c = let early : _ = c in let a : _ = early.args in
    lists-all a.front a.halves.now a.zones.now a.minima.now a.devices.now a.cells.now a.settings.now
    c.note_all-n.ensures a.list.now (λ h. omega (arith, h, c.if-list-needed.false))
    c.note_all.ensures
