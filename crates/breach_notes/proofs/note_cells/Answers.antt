use mathlib.Core.Path.{sym}
use lib.ListN.{length}
use Rattle.records.specs.Views.{system_in, plan_in}
use Rattle.failing_rules.specs.Day.{interval_breaches}
use Rattle.breach_entries.specs.Noted.{gather-start, gather-room, gather-more, gather-done, notes-as}
use Rattle.breach_notes.specs.Day.{cells_are, room_as}
use Rattle.breach_notes.proofs.note_cells.Goals as goal

pub loop-t-init : goal.loop-t-init
loop-t-init c = gather-start _ _ _ _

pub note_interval-n-requires : goal.note_interval-n-requires
note_interval-n-requires c = let a : _ = c.args in record {
  ready = (c.requires.ready, c.loop-t-test.true);
  t_bound = gather-room (interval_breaches (system_in a.halves.now a.zones.now a.minima.now a.devices.now a.cells.now) (plan_in (length a.devices.now) (length
      a.halves.now) a.settings.now)) (length a.halves.now) c.loop-t.invariant c.loop-t-test.true (room_as a.k (cells_are a.halves.now
      a.zones.now a.minima.now a.devices.now a.cells.now a.settings.now) c.requires.settings_bound);
}

pub loop-t-preserved : goal.loop-t-preserved
loop-t-preserved c = let a : _ = c.args in
    gather-more (interval_breaches (system_in a.halves.now a.zones.now a.minima.now a.devices.now a.cells.now) (plan_in (length a.devices.now) (length
    a.halves.now) a.settings.now)) (length a.halves.now) c.loop-t.invariant
    c.loop-t-test.true c.note_interval-n.ensures

pub returns : goal.returns
returns c = let a : _ = c.args in notes-as (sym (cells_are a.halves.now a.zones.now a.minima.now a.devices.now
    a.cells.now a.settings.now)) (gather-done (interval_breaches (system_in a.halves.now a.zones.now a.minima.now a.devices.now a.cells.now) (plan_in
    (length a.devices.now) (length a.halves.now) a.settings.now)) (length a.halves.now) c.loop-t.invariant c.loop-t-test.false)
