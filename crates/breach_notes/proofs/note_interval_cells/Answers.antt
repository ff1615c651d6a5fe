use mathlib.Core.Path.{sym}
use lib.ListN.{length}
use Rattle.model.specs.Breaches.{cell_breaches}
use Rattle.records.specs.Views.{system_in, plan_in}
use Rattle.breach_entries.specs.Noted.{gather-start, gather-room, gather-more, gather-done, notes-as}
use Rattle.breach_notes.specs.Day.{interval-cells, room_as}
use Rattle.breach_notes.proofs.note_interval_cells.Goals as goal

pub loop-i-init : goal.loop-i-init
loop-i-init c = gather-start _ _ _ _

pub note_cell-n-requires : goal.note_cell-n-requires
note_cell-n-requires c = let a : _ = c.args in let r : _ = c.requires.ready.0 in record {
  ready = (r, c.loop-i-test.true, c.requires.ready.1);
  i_bound = gather-room (cell_breaches (system_in a.halves.now a.zones.now a.minima.now a.devices.now a.cells.now) (plan_in (length a.devices.now) (length
      a.halves.now) a.settings.now) a.t) (length a.devices.now) c.loop-i.invariant c.loop-i-test.true (room_as a.k (interval-cells
      a.halves.now a.zones.now a.minima.now a.devices.now a.cells.now a.settings.now a.t)
      c.requires.t_bound);
}

pub loop-i-preserved : goal.loop-i-preserved
loop-i-preserved c = let a : _ = c.args in
    gather-more (cell_breaches (system_in a.halves.now a.zones.now a.minima.now a.devices.now a.cells.now) (plan_in (length a.devices.now) (length
    a.halves.now) a.settings.now) a.t) (length a.devices.now) c.loop-i.invariant
    c.loop-i-test.true c.note_cell-n.ensures

pub returns : goal.returns
returns c = let a : _ = c.args in notes-as (sym (interval-cells a.halves.now a.zones.now a.minima.now a.devices.now
    a.cells.now a.settings.now a.t)) (gather-done (cell_breaches (system_in a.halves.now a.zones.now a.minima.now a.devices.now a.cells.now) (plan_in
    (length a.devices.now) (length a.halves.now) a.settings.now) a.t) (length a.devices.now) c.loop-i.invariant c.loop-i-test.false)
